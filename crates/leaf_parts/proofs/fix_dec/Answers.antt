-- by tools/prove
use Rattle.grammar.specs.Dec as decl
use Rattle.parser.specs.Runs.{runs_in, kind_is, kind_not}
use Rattle.parser.specs.Plans.{plan, choose, chosen, in_steps, s_true, s_false, s_close, s_by, s_end}
use Rattle.leaf_parts.proofs.fix_dec.Goals as goal

pub infix_dec-requires : goal.infix_dec-requires
infix_dec-requires c =
    let pre0 = c.requires.0 in
    let pre1 = c.requires.1 in
    (pre0, pre1)

pub returns-then-k-eq-INFIX_KW : goal.returns-then-k-eq-INFIX_KW
unfolding decl.fix_dec plan choose chosen
returns-then-k-eq-INFIX_KW c =
    let pre0 = c.requires.0 in
    let if1 = c.if-k-eq-INFIX_KW.true in
    let infix_dec = c.infix_dec.ensures in
    in_steps pre0 (s_true _ _ (kind_is if1) (s_by _ infix_dec s_end))

pub infixr_dec-requires : goal.infixr_dec-requires
infixr_dec-requires c =
    let pre0 = c.requires.0 in
    let pre1 = c.requires.1 in
    (pre0, pre1)

pub returns-then-k-eq-INFIXR_KW : goal.returns-then-k-eq-INFIXR_KW
unfolding decl.fix_dec plan choose chosen
returns-then-k-eq-INFIXR_KW c =
    let pre0 = c.requires.0 in
    let if1 = c.if-k-eq-INFIX_KW.false in
    let if2 = c.if-k-eq-INFIXR_KW.true in
    let infixr_dec = c.infixr_dec.ensures in
    in_steps pre0 (s_false _ _ (kind_not if1) (s_true _ _ (kind_is if2) (s_by _ infixr_dec s_end)))

pub nonfix_dec-requires : goal.nonfix_dec-requires
nonfix_dec-requires c =
    let pre0 = c.requires.0 in
    let pre1 = c.requires.1 in
    (pre0, pre1)

pub returns-then-k-eq-NONFIX_KW : goal.returns-then-k-eq-NONFIX_KW
unfolding decl.fix_dec plan choose chosen
returns-then-k-eq-NONFIX_KW c =
    let pre0 = c.requires.0 in
    let if1 = c.if-k-eq-INFIX_KW.false in
    let if2 = c.if-k-eq-INFIXR_KW.false in
    let if3 = c.if-k-eq-NONFIX_KW.true in
    let nonfix_dec = c.nonfix_dec.ensures in
    in_steps pre0 (s_false _ _ (kind_not if1) (s_false _ _ (kind_not if2) (s_true _ _ (kind_is if3) (s_by _ nonfix_dec s_end))))

pub es_import-s1-requires : goal.es_import-s1-requires
es_import-s1-requires c =
    let pre0 = c.requires.0 in
    pre0

pub close_node-requires : goal.close_node-requires
close_node-requires c =
    let pre1 = c.requires.1 in
    let es_import = c.es_import-s1.ensures in
    let es_import_ok = es_import.ok in
    (es_import_ok.logs, pre1)

pub returns-then-k-eq-ESIMPORT_KW : goal.returns-then-k-eq-ESIMPORT_KW
unfolding decl.fix_dec plan choose chosen
returns-then-k-eq-ESIMPORT_KW c =
    let pre0 = c.requires.0 in
    let if1 = c.if-k-eq-INFIX_KW.false in
    let if2 = c.if-k-eq-INFIXR_KW.false in
    let if3 = c.if-k-eq-NONFIX_KW.false in
    let if4 = c.if-k-eq-ESIMPORT_KW.true in
    let es_import = c.es_import-s1.ensures in
    let close_node = c.close_node.ensures in
    in_steps pre0 (s_false _ _ (kind_not if1) (s_false _ _ (kind_not if2) (s_false _ _ (kind_not if3) (s_true _ _ (kind_is if4) (s_by _ (runs_in es_import) (s_close close_node s_end))))))

pub returns : goal.returns
unfolding decl.fix_dec plan choose chosen
returns c =
    let pre0 = c.requires.0 in
    let if1 = c.if-k-eq-INFIX_KW.false in
    let if2 = c.if-k-eq-INFIXR_KW.false in
    let if3 = c.if-k-eq-NONFIX_KW.false in
    let if4 = c.if-k-eq-ESIMPORT_KW.false in
    in_steps pre0 (s_false _ _ (kind_not if1) (s_false _ _ (kind_not if2) (s_false _ _ (kind_not if3) (s_false _ _ (kind_not if4) s_end))))
