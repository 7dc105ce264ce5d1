use Rattle.std.proofs.Common.{◌≡◌, ℕ, ◌<◌, true}
use Rattle.calls.proofs.Committing.{reaches, passes}
use Rattle.calls.proofs.service.commit.HighestLrcs.reached_by.Given as goal

abbrev pub invariant-loop-page : goal.invariant-loop-page
invariant-loop-page l = (p : ℕ) → p < l.page → passes (reaches l.copies l.self.of_page) l.holds p ≡ true
