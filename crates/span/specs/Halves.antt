-- Which half of a span has a page. Assumes nothing.
use Rattle.std.specs.Prelude.{◌≡◌, ℕ, ◌-◌, ◌<◌, ◌≤◌, true, false, length, Ok, Err, Result}
use Rattle.device.specs.declared.page_store.PageFault.{PageFault}
use Rattle.device.specs.declared.page_store.PageFault.TheVariants.{PowerLost, Outside}
use Rattle.device.specs.PageStores.{PageModel}
use Rattle.span.specs.declared.Half.{Half}
use Rattle.span.specs.declared.Half.TheVariants.{First, Second}
use Rattle.span.specs.Spans.{joined}

-- what a span finds for a page: without power that fault, past the end `Outside`, else the half that has it, for the second with its number there
pub data Found (a b : PageModel) (at : ℕ) (r : Result Half PageFault) : Type 0 where
  no_power : (joined a b).powered ≡ false → r ≡ Err (PowerLost at) → Found a b at r
  outside : (joined a b).powered ≡ true → length (joined a b).pages ≤ at → r ≡ Err Outside → Found a b at r
  first : (joined a b).powered ≡ true → at < length (joined a b).pages → at < length a.pages → r ≡ Ok First → Found a b at r
  second : (joined a b).powered ≡ true → at < length (joined a b).pages → length a.pages ≤ at → r ≡ Ok (Second (at - length a.pages))
      → Found a b at r
