-- by hand: the cases that are left stand in front of the rest, and what was counted is missing from the count of all.
use Rattle.std.proofs.Common.{◌≡◌, ◌+◌, ◌-◌, ◌≤◌, true}
use Rattle.replay_parts.specs.Form.{first_case, ends_at}
use Rattle.replay_parts.specs.Agree.{differing}
use Rattle.replay.proofs.count_differing.Given as goal

abbrev pub invariant-loop : goal.invariant-loop
invariant-loop l = record {
  few : l.n ≤ l.counter;
  ends : ends_at (l.count - l.counter) l.rest 0 ≡ true;
  counted : l.n + differing (l.count - l.counter) l.rest 0 ≡ differing l.count l.list first_case;
}
