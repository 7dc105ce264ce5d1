use Rattle.std.proofs.Common.{◌≡◌, ℕ, ◌<◌, [], length, get_or}
use Rattle.format.specs.Bytes.{number_at}
use Rattle.rules.specs.State.{size}
use Rattle.calls.proofs.devices.Devices.stored_lrcs.Given as goal

abbrev pub invariant-loop-page : goal.invariant-loop-page
invariant-loop-page g l = (length l.lrcs ≡ 64) × (l.page-end ≡ size l.self) × ((p : ℕ) → p < l.page → get_or l.lrcs p 0 ≡ number_at (get_or l.self.pages.pages p []) 0)
