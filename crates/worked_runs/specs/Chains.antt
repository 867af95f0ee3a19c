-- The models of the runs of chains: an index that is a fault, taken of what is read before it. Each is the value of a print.
use Rattle.std.specs.Prelude.{List, [], ◌∷◌, None, codes}
use Rattle.sim_model.specs.ModelTree.declared.expressions.BinaryOp.TheVariants as op
use Rattle.sim_model.specs.FlatDesign.declared.value_types.ValueType.TheVariants as type
use Rattle.sim_model.specs.FlatDesign.declared.names.Member.TheVariants as member
use Rattle.sim_model.specs.FlatDesign.declared.names.PayloadField.TheVariants as field
use Rattle.sim_model.specs.FlatDesign.declared.names.PayloadBytes.TheVariants as bytes_of
use Rattle.sim_model.specs.FlatDesign.declared.code.Destination.TheVariants as destination
use Rattle.sim_model.specs.FlatDesign.declared.code.Statement.{Statement}
use Rattle.sim_model.specs.FlatDesign.declared.code.Statement.TheVariants as kept
use Rattle.sim_model.specs.FlatDesign.declared.terms.Expr.{Expr, Placed', Element', PayloadByte'}
use Rattle.sim_model.specs.FlatDesign.declared.terms.Expr.TheVariants as expr
use Rattle.sim_model.specs.FlatDesign.declared.objects.LeadsTo.TheVariants as leads_to
use Rattle.sim_model.specs.FlatDesign.declared.design.Design.{Design}
use Rattle.worked_runs.specs.Body.{end, does, boxed, item, number, say_value}
use Rattle.worked_runs.specs.Build.{design_of, memory, variable, zero_port, thread}
use Rattle.worked_runs.specs.Rows.{byte, signed, integer}
use Rattle.worked_runs.specs.Printed.{unsigned, int, digit_of}

-- `1 / 0`
abbrev pub faulty_index : Expr
faulty_index = int op.Divide (integer 1) (integer 0)

abbrev pub in_memory : List Statement → Design
in_memory ss = design_of (memory (codes "a") 4 ∷ thread (codes "t") (does ss end) ∷ [])

abbrev pub with_payload : List Statement → Design
with_payload ss = design_of (variable (codes "p") type.Payload ∷ thread (codes "t") (does ss end) ∷ [])

-- `a[9][1 / 0]`, `a[1 / 0][9]` and `a[2][64]` of a memory `a` of 4 bytes
abbrev pub past_the_memory : Design
past_the_memory = in_memory (say_value (codes "x") (digit_of unsigned (Element' 0 boxed (integer 9)) faulty_index) ∷ [])

abbrev pub faulty_first : Design
faulty_first = in_memory (say_value (codes "x") (digit_of unsigned (Element' 0 boxed faulty_index) (integer 9)) ∷ [])

abbrev pub past_the_digits : Design
past_the_digits = in_memory (say_value (codes "x") (digit_of unsigned (Element' 0 boxed (integer 2)) (integer 64)) ∷ [])

-- `p.data[99][1 / 0]` of a payload `p` of one byte
abbrev pub past_the_data : Design
past_the_data =
    with_payload (kept.Make (item 0) (number 1) None ∷ say_value (codes "x") (digit_of unsigned (PayloadByte' (item 0) bytes_of.Data boxed (integer 99)) faulty_index) ∷ [])

-- `p.status[1 / 0]` of no payload
abbrev pub no_payload : Design
no_payload = with_payload (say_value (codes "x") (digit_of signed (expr.Member (item 0) (member.Field field.Status)) faulty_index) ∷ [])

-- `q@1[1 / 0]` of a port `q` of two places, of which none is bound
abbrev pub unbound_place : Design
unbound_place =
    design_of (zero_port (codes "q") (leads_to.In byte) 2 ∷ thread (codes "t") (does (say_value (codes "x") (digit_of unsigned (Placed' 0 boxed (number 1)) faulty_index) ∷ []) end) ∷ [])

-- `a[9] = 1 / 0` and `a[9] = 1`
abbrev pub stores : Expr → Design
stores e = in_memory (kept.Assign (destination.Element 0 (integer 9)) e ∷ [])
