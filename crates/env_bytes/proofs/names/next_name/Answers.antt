-- by hand: the least item of a chain of iterators.
-- `names::next_name` meets its contract.
use native.Mathlib.Omega.{arith}
use mathlib.Core.Path.{refl, ◌∙◌}
use borrow.Author.Rules.{rules}
use borrow.Author.Tests.{tests}
use mathlib.Core.List.{List, ◌++◌}
use Prim.Native.Nat.{ℕ}
use Rattle.std.specs.Borrow.{Bor}
use Rattle.std.specs.List.{find}
use Rattle.std.proofs.lemmas.Iterator.{YieldsList-from_range, YieldsList-from_map_by}
use Rattle.std.proofs.lemmas.Iterator.Consumers.{YieldsList-at, YieldsList-from_first, YieldsList-from_chain, YieldsList-from_filter}
use Rattle.std.proofs.lemmas.Iterator.Search.{find_from_yields_List}
use Rattle.grammar.specs.Bytes.{before}
use Rattle.sml_fixity.specs.Table.{name_at, entries_in}
use Rattle.env_bytes.specs.declared.names.Names.{Names}
use Rattle.env_bytes.specs.Names.{names_in, changed_names}
use Rattle.env_bytes.proofs.names.Ordered.{env_ordered, first, first_found}
use Rattle.env_bytes.proofs.names.Picked.{picked}
use Rattle.env_bytes.proofs.names.Reduced.{reduced, YieldsList-from_option}
use Rattle.env_bytes.proofs.names.next_name.Goals as goal

pub returns : goal.returns
returns c =
    let a = c.args in
    let now = λ (b : Bor (List ℕ)). b.now in
    let entries = names_in a.env.now in
    let changes = changed_names a.text.now a.journal.now a.n in
    picked a.last.now (entries ++ changes) c.reduce.result
    (reduced _ first _ (λ b x r q k. search (rules, tests)) c.reduce.result c.reduce.ensures.ran
    (YieldsList-from_chain
    (YieldsList-at c.chain.ensures.first
    (YieldsList-from_option now c.find-entry.result (find (before a.last.now) entries) c.into_iter.ensures.into_iter_gives.0
    (find_from_yields_List (before a.last.now) c.find-entry.new.self _ c.find-entry.result c.find-entry.ensures.ran
    (YieldsList-from_first now (λ (s : Names). names_in s.left.now) entries refl)
    (λ x b q k. search (rules, tests)))))
    (YieldsList-at c.chain.ensures.second
    (YieldsList-from_filter _ (before a.last.now)
    (YieldsList-at c.filter-later.ensures.source
    (YieldsList-from_map_by _ now (name_at a.text.now a.journal.now) (YieldsList-from_range 0 a.n a.n c.map-changes.ensures.source (omega arith)) c.map-changes.ensures.closure (λ x r q k. search (rules, tests))))
    c.filter-later.ensures.closure (λ x b q k. search (rules, tests))))
    c.chain.ensures.first_done c.chain.ensures.second_done)
    ∙ first_found (before a.last.now) entries changes (env_ordered a.env.now (entries_in a.env.now) c.requires.form))
