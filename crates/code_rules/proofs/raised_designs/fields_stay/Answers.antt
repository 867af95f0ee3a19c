use Rattle.code_rules.proofs.Designs.{processes, hops, typed, methods, handlers, unwinding, threads}
use Rattle.code_rules.proofs.raised_designs.fields_stay.Goals as goal

pub returns : goal.returns
returns c = record {
  processes = λ d after differs fit. processes d after differs fit;
  hops = λ d after differs fit. hops d after differs fit;
  typed = λ d after differs fit. typed d after differs fit;
  methods = λ d after differs fit. methods d after differs fit;
  handlers = λ d after differs fit. handlers d after differs fit;
  unwinding = λ d after differs fit. unwinding d after differs fit;
  threads = λ d after differs fit. threads d after differs fit;
}
