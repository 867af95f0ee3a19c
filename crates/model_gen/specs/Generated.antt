-- The text of the generated model of a size: a producer of a hundred numbers, as many stages that add one as the size says, and a
-- consumer that sums up what comes, each joined to the next by a fifo. It is laid out as a printed model is.
use Rattle.std.specs.Prelude.{ℕ, zero, suc, ◌-◌, List, [], ◌++◌, codes}
use Rattle.std.specs.Fmt.{decimal}

-- the producer writes the numbers from 0 to 99
unfoldable pub producer : List ℕ
producer =
    codes "module P {\n"
    ++ codes "  fifo_out uint<32> b;\n"
    ++ codes "  thread t {\n"
    ++ codes "    var uint<32> i;\n"
    ++ codes "    while i < 100 {\n"
    ++ codes "      write b i;\n"
    ++ codes "      i = i + 1;\n"
    ++ codes "    }\n"
    ++ codes "  }\n"
    ++ codes "}\n"

-- a stage writes one more than what it reads
unfoldable pub stage : List ℕ
stage =
    codes "module S {\n"
    ++ codes "  fifo_in uint<32> a;\n"
    ++ codes "  fifo_out uint<32> b;\n"
    ++ codes "  thread t {\n"
    ++ codes "    var uint<32> x;\n"
    ++ codes "    while true {\n"
    ++ codes "      x = read a;\n"
    ++ codes "      write b x + 1;\n"
    ++ codes "    }\n"
    ++ codes "  }\n"
    ++ codes "}\n"

-- the consumer reads a hundred numbers, and its signal shows their sum so far
unfoldable pub consumer : List ℕ
consumer =
    codes "module C {\n"
    ++ codes "  fifo_in uint<32> a;\n"
    ++ codes "  signal uint<32> s;\n"
    ++ codes "  thread t {\n"
    ++ codes "    var uint<32> x;\n"
    ++ codes "    var uint<32> k;\n"
    ++ codes "    var uint<32> z;\n"
    ++ codes "    while k < 100 {\n"
    ++ codes "      x = read a;\n"
    ++ codes "      z = z + x;\n"
    ++ codes "      write s z;\n"
    ++ codes "      k = k + 1;\n"
    ++ codes "    }\n"
    ++ codes "  }\n"
    ++ codes "}\n"

-- the first lines of the top module: the first fifo, and the producer that writes to it
unfoldable pub first_lines : List ℕ
first_lines =
    codes "module G {\n"
    ++ codes "  fifo uint<32> f0 size 4;\n"
    ++ codes "  inst P p;\n"
    ++ codes "  bind p.b to f0;\n"

-- a fifo, an instance of a stage, and a port of one bound to a fifo, each by its number
abbrev pub fifo_line : ℕ → List ℕ
fifo_line j = codes "  fifo uint<32> f" ++ decimal j ++ codes " size 4;\n"

abbrev pub instance_line : ℕ → List ℕ
instance_line j = codes "  inst S s" ++ decimal j ++ codes ";\n"

abbrev pub bind_line : ℕ → List ℕ → ℕ → List ℕ
bind_line j port i = codes "  bind s" ++ decimal j ++ codes "." ++ port ++ codes " to f" ++ decimal i ++ codes ";\n"

-- stage j, counted from 1, reads from the fifo before it and writes to its own
unfoldable pub stage_lines : ℕ → List ℕ
stage_lines j = fifo_line j ++ instance_line j ++ bind_line j (codes "a") (j - 1) ++ bind_line j (codes "b") j

-- the stages from 1 to n, in order
unfoldable pub stages : ℕ → List ℕ
stages zero = []
stages (suc n) = stages n ++ stage_lines (suc n)

-- the last lines: the consumer, which reads from the last fifo, and the top
unfoldable pub last_lines : ℕ → List ℕ
last_lines n =
    codes "  inst C c;\n"
    ++ codes "  bind c.a to f" ++ decimal n ++ codes ";\n"
    ++ codes "}\n"
    ++ codes "top G g;\n"

-- the whole text
abbrev pub generated : ℕ → List ℕ
generated n = producer ++ stage ++ consumer ++ first_lines ++ stages n ++ last_lines n
