-- by tools/prove
use Rattle.grammar.specs.Prog.{Prog}
use Rattle.grammar.specs.Rule.{Rule}
use Rattle.grammar.specs.Util as util
use Rattle.grammar.specs.Exp as expr
use Rattle.grammar.specs.Dec as decl
use Rattle.exp_prec.specs.Prec.{prec_of}
use Rattle.parser.specs.Nodes.{node_number}
use Rattle.parser.specs.View.{mem_of, err_of}
use Rattle.parser.specs.Runs.{Loops, turns}
use Prim.Native.Nat.{◌*◌}
use Prim.Native.Nat.{◌+◌}
use mathlib.Core.Bool.{true}
use mathlib.Core.Bool.{Bool}
use Rattle.exp_dec.proofs.+exp_dec.Given as goal

abbrev pub decreases-app : goal.decreases-app
decreases-app l = 64 * l.left

abbrev pub decreases-arg : goal.decreases-arg
decreases-arg l = 64 * l.left

abbrev pub decreases-arm : goal.decreases-arm
decreases-arm l = 64 * l.left + 8

abbrev pub decreases-asc : goal.decreases-asc
decreases-asc l = 64 * l.left

abbrev pub decreases-aso : goal.decreases-aso
decreases-aso l = 64 * l.left + 1

abbrev pub decreases-atm : goal.decreases-atm
decreases-atm l = 64 * l.left + 5

abbrev pub decreases-bd : goal.decreases-bd
decreases-bd l = 64 * l.left + 1

abbrev pub decreases-bdy : goal.decreases-bdy
decreases-bdy l = 64 * l.left + 3

abbrev pub decreases-cel : goal.decreases-cel
decreases-cel l = 64 * l.left + 7

abbrev pub decreases-cl : goal.decreases-cl
decreases-cl l = 64 * l.left + 1

abbrev pub decreases-cor : goal.decreases-cor
decreases-cor l = 64 * l.left + 8

abbrev pub decreases-cs : goal.decreases-cs
decreases-cs l = 64 * l.left + 1

abbrev pub decreases-dec : goal.decreases-dec
decreases-dec l = 64 * l.left + 2

abbrev pub decreases-end : goal.decreases-end
decreases-end l = 64 * l.left

abbrev pub decreases-eq : goal.decreases-eq
decreases-eq l = 64 * l.left

abbrev pub decreases-ex : goal.decreases-ex
decreases-ex l = 64 * l.left + 1

abbrev pub decreases-exp : goal.decreases-exp
decreases-exp l = 64 * l.left + 6

abbrev pub decreases-fap : goal.decreases-fap
decreases-fap l = 64 * l.left + 3

abbrev pub decreases-fct : goal.decreases-fct
decreases-fct l = 64 * l.left + 4

abbrev pub decreases-fun : goal.decreases-fun
decreases-fun l = 64 * l.left + 1

abbrev pub decreases-hs : goal.decreases-hs
decreases-hs l = 64 * l.left

abbrev pub decreases-ic : goal.decreases-ic
decreases-ic l = 64 * l.left + 1

abbrev pub invariant-ic-loop-s2 : goal.invariant-ic-loop-s2
invariant-ic-loop-s2 l = Loops l.left l.b (Prog.call Rule.sig_exp) (mem_of l.initial.lent l.initial.table l.initial.scratch l.initial.finds l.initial.s1) (mem_of l.lent l.table l.scratch l.finds l.s1)

abbrev pub decreases-ic-loop-s2 : goal.decreases-ic-loop-s2
decreases-ic-loop-s2 l = turns (mem_of l.lent l.table l.scratch l.finds l.s1)

abbrev pub decreases-id : goal.decreases-id
decreases-id l = 64 * l.left + 1

abbrev pub decreases-itm : goal.decreases-itm
decreases-itm l = 64 * l.left + 9

abbrev pub decreases-kw : goal.decreases-kw
decreases-kw l = 64 * l.left + 8

abbrev pub decreases-lex : goal.decreases-lex
decreases-lex l = 64 * l.left + 4

abbrev pub decreases-lo : goal.decreases-lo
decreases-lo l = 64 * l.left + 1

abbrev pub decreases-mat : goal.decreases-mat
decreases-mat l = 64 * l.left

abbrev pub decreases-mds : goal.decreases-mds
decreases-mds l = 64 * l.left + 7

abbrev pub decreases-mny : goal.decreases-mny
decreases-mny l = 64 * l.left

abbrev pub invariant-mny-loop-q : goal.invariant-mny-loop-q
invariant-mny-loop-q l = Loops l.left l.b (util.many_turn {g = true} l.q.sep (node_number l.q.wrap) (decl.many_closure (node_number l.q.wrap) (err_of l.e))) (mem_of l.initial.lent l.initial.table l.initial.scratch l.initial.finds l.initial.s1) (mem_of l.lent l.table l.scratch l.finds l.s1)

abbrev pub decreases-mny-loop-q : goal.decreases-mny-loop-q
decreases-mny-loop-q l = turns (mem_of l.lent l.table l.scratch l.finds l.s1)

abbrev pub decreases-one : goal.decreases-one
decreases-one l = 64 * l.left

abbrev pub decreases-opr : goal.decreases-opr
decreases-opr l = 64 * l.left

abbrev pub decreases-ops : goal.decreases-ops
decreases-ops l = 64 * l.left + 3

abbrev pub invariant-ops-loop-s2 : goal.invariant-ops-loop-s2
invariant-ops-loop-s2 l = Loops l.left l.b (expr.exp_step (prec_of l.min)) (mem_of l.initial.lent l.initial.table l.initial.scratch l.initial.finds l.initial.s1) (mem_of l.lent l.table l.scratch l.finds l.s1)

abbrev pub decreases-ops-loop-s2 : goal.decreases-ops-loop-s2
decreases-ops-loop-s2 l = turns (mem_of l.lent l.table l.scratch l.finds l.s1)

abbrev pub decreases-oth : goal.decreases-oth
decreases-oth l = 64 * l.left + 6

abbrev pub decreases-pa : goal.decreases-pa
decreases-pa l = 64 * l.left + 3

abbrev pub decreases-pre : goal.decreases-pre
decreases-pre l = 64 * l.left + 5

abbrev pub decreases-pt : goal.decreases-pt
decreases-pt l = 64 * l.left + 1

abbrev pub decreases-rhs : goal.decreases-rhs
decreases-rhs l = 64 * l.left + 7

abbrev pub decreases-rnd : goal.decreases-rnd
decreases-rnd l = 64 * l.left + 2

abbrev pub decreases-rst : goal.decreases-rst
decreases-rst l = 64 * l.left + 4

abbrev pub decreases-sem : goal.decreases-sem
decreases-sem l = 64 * l.left

abbrev pub decreases-sep : goal.decreases-sep
decreases-sep l = 64 * l.left

abbrev pub invariant-sep-loop-q : goal.invariant-sep-loop-q
invariant-sep-loop-q l = Loops l.left l.b (util.end_turn {g = true} (node_number l.q.wrap) l.q.sep l.q.end (expr.end_closure (node_number l.q.wrap))) (mem_of l.initial.lent l.initial.table l.initial.scratch l.initial.finds l.initial.s1) (mem_of l.lent l.table l.scratch l.finds l.s1)

abbrev pub decreases-sep-loop-q : goal.decreases-sep-loop-q
decreases-sep-loop-q l = turns (mem_of l.lent l.table l.scratch l.finds l.s1)

abbrev pub decreases-seq : goal.decreases-seq
decreases-seq l = 64 * l.left + 1

abbrev pub invariant-seq-loop-s2 : goal.invariant-seq-loop-s2
invariant-seq-loop-s2 l = (g : Bool) → Loops l.left l.b (util.semi_turn {g = g} (node_number l.w) (decl.semi_closure (node_number l.w) (err_of l.e))) (mem_of l.initial.lent l.initial.table l.initial.scratch l.initial.finds l.initial.s1) (mem_of l.lent l.table l.scratch l.finds l.s1)

abbrev pub decreases-seq-loop-s2 : goal.decreases-seq-loop-s2
decreases-seq-loop-s2 l = turns (mem_of l.lent l.table l.scratch l.finds l.s1)

abbrev pub decreases-sgb : goal.decreases-sgb
decreases-sgb l = 64 * l.left + 2

abbrev pub decreases-sgm : goal.decreases-sgm
decreases-sgm l = 64 * l.left + 1

abbrev pub decreases-sgx : goal.decreases-sgx
decreases-sgx l = 64 * l.left

abbrev pub decreases-slt : goal.decreases-slt
decreases-slt l = 64 * l.left + 3

abbrev pub decreases-stb : goal.decreases-stb
decreases-stb l = 64 * l.left + 2

abbrev pub decreases-sth : goal.decreases-sth
decreases-sth l = 64 * l.left + 4

abbrev pub decreases-stm : goal.decreases-stm
decreases-stm l = 64 * l.left + 2

abbrev pub decreases-stp : goal.decreases-stp
decreases-stp l = 64 * l.left + 2

abbrev pub decreases-stt : goal.decreases-stt
decreases-stt l = 64 * l.left

abbrev pub invariant-stt-loop-k : goal.invariant-stt-loop-k
invariant-stt-loop-k l = Loops l.left l.b decl.str_step (mem_of l.initial.lent l.initial.table l.initial.scratch l.initial.finds l.initial.s1) (mem_of l.lent l.table l.scratch l.finds l.s1)

abbrev pub decreases-stt-loop-k : goal.decreases-stt-loop-k
decreases-stt-loop-k l = turns (mem_of l.lent l.table l.scratch l.finds l.s1)

abbrev pub decreases-stx : goal.decreases-stx
decreases-stx l = 64 * l.left + 1

abbrev pub decreases-tl : goal.decreases-tl
decreases-tl l = 64 * l.left

abbrev pub decreases-vl : goal.decreases-vl
decreases-vl l = 64 * l.left + 1

abbrev pub decreases-we : goal.decreases-we
decreases-we l = 64 * l.left + 7
