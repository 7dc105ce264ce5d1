-- Writes of a page, as they make room and put a slot.
use Rattle.std.proofs.Common.{◌≡◌, ℕ, suc, ◌*◌, ◌/◌, ◌%◌, ◌<◌, Bool, true, eqb, List, [], length, get_or, set, Ok, Err, Result, sym, refl, ap, ◌∙◌, subst, ⊎_elim, arith}
use Rattle.std.proofs.lemmas.List.{set-get_or}
use Rattle.std.proofs.lemmas.Bool.{cases_Bool, eq-eqb, both_ways}
use Rattle.device.specs.declared.page_store.PageFault.{PageFault}
use Rattle.device.specs.PageStores.{PageModel, PageWritten}
use Rattle.paged_log.specs.PagedLogs.{blank, page_with, room_made, put_slot, at_power, Made, SlotPut}
use Rattle.paged_log.proofs.PagedLogModel.{at_this}
use Rattle.paged_log.proofs.PagedLogSteps.{room_size}

no_room : (pages : List (List ℕ)) (n : ℕ) → set pages (suc (n / 4)) blank ≡ pages → room_made pages n ≡ pages
no_room pages n e = ⊎_elim (λ t. rw t e) (λ t. rw t refl) (cases_Bool (eqb (n % 4) 3))

-- the next page is blank already
pub room_blank : (m : PageModel) (n : ℕ) → m.powered ≡ true → get_or m.pages (suc (n / 4)) [] ≡ blank → m ≡ at_power true (room_made m.pages n)
room_blank m n e h = at_this m true e ∙ ap (at_power true) (sym (no_room m.pages n
    (ap (set m.pages (suc (n / 4))) (sym h) ∙ set-get_or m.pages (suc (n / 4)) [])))

wrote_made : (m : PageModel) (at : ℕ) (page : List ℕ) (r : Result (Unit {0}) PageFault) (m' : PageModel) → m.powered ≡ true → at < length m.pages
    → PageWritten m at page r m' → Made m.pages (set m.pages at page) r m'
wrote_made m at page r m' p h (PageWritten.no_power q e s) = absurd (both_ways m.powered q p)
wrote_made m at page r m' p h (PageWritten.outside q l e s) = absurd (omega arith)
wrote_made m at page r m' p h (PageWritten.done q l e s) = Made.done e (s ∙ ap (λ (t : Bool). at_power t (set m.pages at page)) p)
wrote_made m at page r m' p h (PageWritten.lost_old q l e s) = Made.lost at e s
wrote_made m at page r m' p h (PageWritten.lost_new q l e s) = Made.lost_new at e s

pub wrote_room : (m : PageModel) (n at : ℕ) (r : Result (Unit {0}) PageFault) (m' : PageModel) → m.powered ≡ true → n % 4 ≡ 3 → at ≡ suc (n / 4)
    → at < length m.pages → PageWritten m at blank r m' → Made m.pages (room_made m.pages n) r m'
wrote_room m n at r m' p fourth e h w =
    rw (eq-eqb (n % 4) 3 fourth) (subst (λ (k : ℕ). Made m.pages (set m.pages k blank) r m') e (wrote_made m at blank r m' p h w))

-- room was made, and the page with the slot is written
pub wrote_slot : (pages : List (List ℕ)) (n : ℕ) (slot bytes page : List ℕ) (m : PageModel) (r : Result (Unit {0}) PageFault) (m' : PageModel)
    → n < 4 * length pages → m ≡ at_power true (room_made pages n) → bytes ≡ get_or m.pages (n / 4) [] → page ≡ page_with bytes (n % 4) slot
    → PageWritten m (n / 4) page r m' → SlotPut pages n slot r m'
wrote_slot pages n slot bytes page m r m' inside s b p w =
    let size = ap (λ (x : PageModel). length x.pages) s ∙ room_size pages n in
    let made = wrote_made m (n / 4) page r m' (ap (λ (x : PageModel). x.powered) s) (omega arith) w in
    let same : page ≡ page_with (get_or m.pages (n / 4) []) (n % 4) slot = p ∙ ap (λ (l : List ℕ). page_with l (n % 4) slot) b in
    let put = subst (λ (l : List ℕ). Made m.pages (set m.pages (n / 4) l) r m') same made in
    SlotPut.put (subst (λ (x : PageModel). Made x.pages (put_slot x.pages n slot) r m') s put)

-- power was lost in making room
pub room_lost : (pages : List (List ℕ)) (n : ℕ) (slot : List ℕ) (r : Result (Unit {0}) PageFault) (fault : PageFault) (m : PageModel)
    → Made pages (room_made pages n) r m → r ≡ Err fault → SlotPut pages n slot r m
room_lost pages n slot r fault m (Made.done e s) f = absurd cc
room_lost pages n slot r fault m (Made.lost at e s) f = SlotPut.room_lost at e s
room_lost pages n slot r fault m (Made.lost_new at e s) f = SlotPut.put (Made.lost at e s)

pub room_done : (pages : List (List ℕ)) (n : ℕ) (r : Result (Unit {0}) PageFault) (m : PageModel)
    → Made pages (room_made pages n) r m → r ≡ Ok tt → m ≡ at_power true (room_made pages n)
room_done pages n r m (Made.done e s) f = s
room_done pages n r m (Made.lost at e s) f = absurd cc
room_done pages n r m (Made.lost_new at e s) f = absurd cc
