-- What a half does, the span does.
use Rattle.std.proofs.Common.{◌≡◌, ℕ, ◌+◌, ◌-◌, ◌<◌, ◌≤◌, min, Bool, true, false, ◌&&◌, List, [], ◌++◌, length, get_or, take, Ok, Err, Result, sym, refl, ap, ◌∙◌, arith}
use Rattle.std.proofs.lemmas.List.{length-take, length-append, get_or-take, get_or_append_left, get_or-append_right, set-append_left, set-append_right}
use Rattle.std.proofs.Math.Seq.{take-set-lt}
use Rattle.std.proofs.lemmas.Bool.{both_ways, and_parts, and_right}
use Rattle.device.specs.declared.page_store.PageFault.{PageFault}
use Rattle.device.specs.PageStores.{PageModel, PageRead, PageWritten, with_page, without_power, fault_at}
use Rattle.span.specs.declared.Half.{Half}
use Rattle.span.specs.declared.Half.TheVariants.{First, Second}
use Rattle.span.specs.Spans.{joined}
use Rattle.span.specs.Halves.{Found}

-- a fault of the second half names the page of the span
abbrev pub at_page : {T : Type 0} → Result T PageFault → ℕ → Result T PageFault
at_page (Ok x) page = Ok x
at_page (Err f) page = Err (fault_at f page)

pub joined_size : (a b : PageModel) → length (joined a b).pages ≡ min 65536 (length a.pages + length b.pages)
joined_size a b = length-take 65536 (a.pages ++ b.pages) ∙ ap (λ n. min 65536 n) (length-append a.pages b.pages)

never : {P : Type 0} (b : Bool) → b ≡ true → b ≡ false → P
never b t f = absurd (both_ways b f t)

-- where the page was found
pub in_first : (a b : PageModel) (at : ℕ) (r : Result Half PageFault) → Found a b at r → r ≡ Ok First
    → ((joined a b).powered ≡ true) × (at < length (joined a b).pages) × (at < length a.pages)
in_first a b at r (Found.no_power off e) is = absurd cc
in_first a b at r (Found.outside on past e) is = absurd cc
in_first a b at r (Found.first on inside low e) is = (on, inside, low)
in_first a b at r (Found.second on inside high e) is = absurd cc

pub in_second : (a b : PageModel) (at n : ℕ) (r : Result Half PageFault) → Found a b at r → r ≡ Ok (Second n)
    → ((joined a b).powered ≡ true) × (at < length (joined a b).pages) × (length a.pages ≤ at) × (n ≡ at - length a.pages)
in_second a b at n r (Found.no_power off e) is = absurd cc
in_second a b at n r (Found.outside on past e) is = absurd cc
in_second a b at n r (Found.first on inside low e) is = absurd cc
in_second a b at n r (Found.second on inside high e) is = (on, inside, high, cc)

-- both have power, and the page is one of the span's
module _ (a b : PageModel) (on : (joined a b).powered ≡ true) (at : ℕ) (inside : at < length (joined a b).pages) where
  pa : a.powered ≡ true
  pa = (and_parts a.powered b.powered on).0

  pb : b.powered ≡ true
  pb = (and_parts a.powered b.powered on).1

  cut : get_or (joined a b).pages at [] ≡ get_or (a.pages ++ b.pages) at []
  cut = get_or-take 65536 (a.pages ++ b.pages) at [] (let s = joined_size a b in omega arith)

  small : at < 65536
  small = let s = joined_size a b in omega arith

  module _ (low : at < length a.pages) where
    same_first : get_or a.pages at [] ≡ get_or (joined a b).pages at []
    same_first = sym (cut ∙ get_or_append_left a.pages b.pages [] at low)

    put_first : (page : List ℕ) → joined (with_page a at page) b ≡ with_page (joined a b) at page
    put_first page = ap (λ (ps : List (List ℕ)). record { pages = ps; powered = a.powered && b.powered })
        (ap (take 65536) (sym (set-append_left a.pages b.pages at page low)) ∙ take-set-lt 65536 (a.pages ++ b.pages) at page small)

    pub read_first : (r : Result (List ℕ) PageFault) → PageRead a at r → PageRead (joined a b) at r
    read_first r (PageRead.no_power p e) = never a.powered pa p
    read_first r (PageRead.outside p l e) = absurd (omega arith)
    read_first r (PageRead.done p l e) = PageRead.done on inside (e ∙ ap Ok same_first)

    pub wrote_first : (page : List ℕ) (r : Result (Unit {0}) PageFault) (a' : PageModel) → PageWritten a at page r a'
        → PageWritten (joined a b) at page r (joined a' b)
    wrote_first page r a' (PageWritten.no_power p e s) = never a.powered pa p
    wrote_first page r a' (PageWritten.outside p l e s) = absurd (omega arith)
    wrote_first page r a' (PageWritten.done p l e s) = PageWritten.done on inside e (ap (λ m. joined m b) s ∙ put_first page)
    wrote_first page r a' (PageWritten.lost_old p l e s) = PageWritten.lost_old on inside e (ap (λ m. joined m b) s)
    wrote_first page r a' (PageWritten.lost_new p l e s) =
        PageWritten.lost_new on inside e (ap (λ m. joined m b) s ∙ ap without_power (put_first page))

  module _ (high : length a.pages ≤ at) where
    n : ℕ
    n = at - length a.pages

    within : n < length b.pages
    unfolding n
    within = let s = joined_size a b in omega arith

    same_second : get_or b.pages n [] ≡ get_or (joined a b).pages at []
    unfolding n
    same_second = sym (cut ∙ get_or-append_right a.pages b.pages (length a.pages) at [] refl high)

    put_second : (page : List ℕ) → joined a (with_page b n page) ≡ with_page (joined a b) at page
    unfolding n
    put_second page = ap (λ (ps : List (List ℕ)). record { pages = ps; powered = a.powered && b.powered })
        (ap (take 65536) (sym (set-append_right a.pages b.pages (length a.pages) at page refl high)) ∙ take-set-lt 65536 (a.pages ++ b.pages) at page small)

    off : (m : PageModel) → joined a (without_power m) ≡ without_power (joined a m)
    off m = ap (λ (t : Bool). record { pages = take 65536 (a.pages ++ m.pages); powered = t }) (and_right a.powered false refl)

    pub read_second : (r : Result (List ℕ) PageFault) → PageRead b (at - length a.pages) r → PageRead (joined a b) at (at_page r at)
    unfolding n
    read_second r (PageRead.no_power p e) = never b.powered pb p
    read_second r (PageRead.outside p l e) = let w = within in absurd (omega arith)
    read_second r (PageRead.done p l e) = PageRead.done on inside (ap (λ t. at_page t at) e ∙ ap Ok same_second)

    pub wrote_second : (page : List ℕ) (r : Result (Unit {0}) PageFault) (b' : PageModel) → PageWritten b (at - length a.pages) page r b'
        → PageWritten (joined a b) at page (at_page r at) (joined a b')
    unfolding n
    wrote_second page r b' (PageWritten.no_power p e s) = never b.powered pb p
    wrote_second page r b' (PageWritten.outside p l e s) = let w = within in absurd (omega arith)
    wrote_second page r b' (PageWritten.done p l e s) =
        PageWritten.done on inside (ap (λ t. at_page t at) e) (ap (joined a) s ∙ put_second page)
    wrote_second page r b' (PageWritten.lost_old p l e s) =
        PageWritten.lost_old on inside (ap (λ t. at_page t at) e) (ap (joined a) s ∙ off b)
    wrote_second page r b' (PageWritten.lost_new p l e s) =
        PageWritten.lost_new on inside (ap (λ t. at_page t at) e) (ap (joined a) s ∙ off (with_page b (at - length a.pages) page) ∙ ap without_power (put_second page))
