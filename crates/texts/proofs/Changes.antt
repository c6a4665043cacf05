-- Laws of a token that is taken with a change of its fixity: the change comes behind the bump.
use Prim.Native.Nat.{ℕ, ◌-◌, ◌≤◌, ◌<◌}
use native.Mathlib.Omega.{arith}
use mathlib.Core.Path.{◌≡◌, refl, sym, ◌∙◌}
use mathlib.Core.List.{List}
use mathlib.Core.Option.{Option}
use mathlib.Core.Bool.{true, false}
use Rattle.grammar.specs.Tokens.{live, text_at}
use Rattle.grammar.specs.Env.{Infix}
use Rattle.grammar.specs.World.{take1, take_change, take_change_in, change, change_in, refuse, no_fixity}
use Rattle.grammar.specs.Prog.{does}
use Rattle.grammar.specs.Prog.Act.{take_as}
use Rattle.sml_fixity.specs.Table.{Made, Refused, allowed}
use Rattle.sml_fixity.specs.declared.table.Table.{Table}
use Rattle.parser.specs.View.{is_off, Mem, mem, Sound, Did, seen_in, now_of, rest_of, table_in, refused_by}
use Rattle.parser.specs.Runs.{on_at, off_at, shut, kept_next, kept_same, refused_same, ok_refused}
use Rattle.parser.specs.Backs.{opened}
use Rattle.parser.specs.declared.State.{State}
use Rattle.parser.proofs.Buffers.{live_token}

-- the state with another table
abbrev pub with_table : State → Table → State
with_table s t = record {
  at = s.at;
  count = s.count;
  len = s.len;
  used = s.used;
  room = s.room;
  found = s.found;
  kept = s.kept;
  fixes = t;
  mode = s.mode;
  stop = s.stop;
}

-- nothing is taken
module _ {m : Mem} (o : Sound m) (c : Option Infix) where
  pub takes_off : true ≡ is_off m.state → Did (does (take_as c)) m m
  unfolding does take_change
  takes_off h = record { ok = o; same = rw (shut m (off_at h)) refl; kept = kept_same refl }

  pub takes_none : false ≡ is_off m.state → m.state.count ≤ m.state.at → Did (does (take_as c)) m m
  unfolding does take_change take_change_in now_of rest_of live
  takes_none h p =
      let z : m.state.count - m.state.at ≡ 0 = omega arith in
      record { ok = o; same = rw (opened m (on_at h), z) refl; kept = kept_same refl }

-- a token is taken
module _ {x t e j l l' f : List ℕ} {s r : State} (c : Option Infix) (o : Sound (mem x t e j l f s)) (goes : false ≡ is_off s) (more : s.at < s.count) (d : Did take1 (mem x t e j l f s) (mem x t e j l' f r)) where
  -- the change comes behind
  behind : take_change c (seen_in (mem x t e j l f s)) ≡ change c (text_at x t s.at) (seen_in (mem x t e j l' f r))
  unfolding take_change take_change_in take1 now_of rest_of
  behind =
      rw (d.same, opened (mem x t e j l f s) (on_at goes), live_token x t s.count s.at more (o.reads.ready more)) refl

  -- the log was full
  pub takes_full : true ≡ is_off r → Did (does (take_as c)) (mem x t e j l f s) (mem x t e j l' f r)
  unfolding does change
  takes_full h = record { ok = d.ok; same = sym (behind ∙ rw (shut (mem x t e j l' f r) (off_at h)) refl); kept = d.kept }

  module _ (on' : false ≡ is_off r) where
    -- the change may not be made
    stops : allowed x e j (table_in r) (text_at x t s.at) c ≡ false → change c (text_at x t s.at) (seen_in (mem x t e j l' f r)) ≡ refuse no_fixity (seen_in (mem x t e j l' f r))
    unfolding change change_in refuse now_of
    stops h = rw (opened (mem x t e j l' f r) (on_at on')) (rw (h, change_in) refl)

    pub takes_refused : {r' : State} {j' : List ℕ} → Refused x e j (table_in r) (text_at x t s.at) c j' → r' ≡ refused_by no_fixity r → Did (does (take_as c)) (mem x t e j l f s) (mem x t e j' l' f r')
    unfolding does
    takes_refused h q = rw (q, h.kept) record {
      ok = ok_refused no_fixity refl d.ok;
      same = refused_same no_fixity (mem x t e j l' f r) (λ z. omega arith) ∙ sym (behind ∙ stops h.may);
      kept = kept_next d.kept (kept_same refl);
    }

    -- it was made
    changes : {u : Table} {j' : List ℕ} → Made x e j (table_in r) (text_at x t s.at) c j' u → seen_in (mem x t e j' l' f (with_table r u)) ≡ change c (text_at x t s.at) (seen_in (mem x t e j l' f r))
    unfolding change change_in now_of rest_of
    changes {u} {j'} h =
        rw (opened (mem x t e j' l' f (with_table r u)) (on_at on'), opened (mem x t e j l' f r) (on_at on'))
        (rw (h.may, change_in) (cc (h.means, h.once)))

    pub takes_changed : {u : Table} {j' : List ℕ} → Made x e j (table_in r) (text_at x t s.at) c j' u → Did (does (take_as c)) (mem x t e j l f s) (mem x t e j' l' f (with_table r u))
    unfolding does
    takes_changed h = record {
      ok = record { reads = d.ok.reads; names = d.ok.names; logs = d.ok.logs; holds = d.ok.holds; stands = h.stands };
      same = changes h ∙ sym behind;
      kept = kept_next d.kept record { grows = let n = h.next in omega arith; bytes = h.below };
    }
