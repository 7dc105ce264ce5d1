-- The worked runs, computed, and that each is a run. Assumes nothing.
use Rattle.std.proofs.Common.{ℕ, ◌≤◌, true, List, refl, lit≤}
use Rattle.changes.specs.Additions.{addition_meaning}
use Rattle.format.specs.Changes.{Meaning}
use Rattle.changes.specs.Patches.{patch_meaning}
use Rattle.rules.specs.Examples.{Worked, ComeOut, RunsSo, Possible, Reached, Event, run_from_blank, begin, restart, three_changes, two_places, past_the_end, and_back, written_and_lost, then_looked_at, only_lost, lost_again, not_yet_shipped}
use Rattle.rules.specs.Runs.{made, plan_of}
use Rattle.rules.proofs.Outcomes.{run_does, history_reached}

come_out : ComeOut
come_out = record {
  empty = refl;
  fourth = refl;
  filled = refl;
  places = refl;
  sum = refl;
  taken_back = refl;
  committed = refl;
  written = refl;
  written_copy = refl;
  written_log = refl;
  seen = refl;
  unwritten = refl;
  unwritten_copy = refl;
  unwritten_log = refl;
  cut = refl;
  cut_log = refl;
  unshipped = refl;
}

module _ {C : Type 0} (m : Meaning C) where
  -- any history that begins with a server just made over blank devices
  played_out : (pages slots : ℕ) (es : List Event) → 1 ≤ pages → pages ≤ 64 → 8 ≤ slots → slots ≤ 4096 → Reached m (run_from_blank m pages slots es)
  played_out pages slots es a b c d = history_reached m es (begin m pages slots) (made pages slots true true a b c d)

  of_sixteen : (es : List Event) → Reached m (run_from_blank m 2 16 es)
  of_sixteen es = played_out 2 16 es (lit≤ tt) (lit≤ tt) (lit≤ tt) (lit≤ tt)

runs_so : RunsSo
runs_so = record {
  empty = of_sixteen patch_meaning restart;
  eight = played_out patch_meaning 2 8 three_changes (lit≤ tt) (lit≤ tt) (lit≤ tt) (lit≤ tt);
  places = of_sixteen patch_meaning two_places;
  sum = of_sixteen addition_meaning past_the_end;
  taken_back = of_sixteen addition_meaning and_back;
  written = of_sixteen patch_meaning written_and_lost;
  seen = of_sixteen patch_meaning then_looked_at;
  unwritten = of_sixteen patch_meaning only_lost;
  cut = of_sixteen patch_meaning lost_again;
  unshipped = of_sixteen patch_meaning not_yet_shipped;
}

pub worked : Worked
worked = (come_out, runs_so)

pub possible : {C : Type 0} (m : Meaning C) → Possible m
possible m f c w h = run_does m f (plan_of m c w) w h
