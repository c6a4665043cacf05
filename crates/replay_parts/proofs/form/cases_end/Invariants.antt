-- by hand: as many cases as are left stand in front of the rest.
use Rattle.std.proofs.Common.{◌≡◌, ◌-◌}
use Rattle.replay_parts.specs.Form.{ends_at}
use Rattle.replay_parts.proofs.form.cases_end.Given as goal

abbrev pub invariant-loop : goal.invariant-loop
invariant-loop l = ends_at (l.count - l.counter) l.rest 0 ≡ ends_at l.count l.list 0
