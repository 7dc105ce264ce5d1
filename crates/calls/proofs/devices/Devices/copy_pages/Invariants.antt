use Rattle.std.proofs.Common.{◌≡◌, ◌≤◌, take, map, vec_capacity}
use Rattle.format.specs.Pages.{page_of}
use Rattle.rules.specs.State.{size}
use Rattle.calls.proofs.devices.Devices.copy_pages.Given as goal

abbrev pub invariant-loop-page : goal.invariant-loop-page
invariant-loop-page g l = (l.page-end ≡ size l.self) × (l.copies.items ≡ map page_of (take l.page l.self.pages.pages)) × (64 ≤ vec_capacity l.copies)
