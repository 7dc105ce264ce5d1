-- The model of a log on pages: what its making gives, and what each call makes of it.
use Rattle.std.proofs.Common.{◌≡◌, ℕ, suc, ◌/◌, ◌%◌, ◌<◌, min, Bool, true, false, ltb, List, [], ◌∷◌, ◌++◌, length, get_or, take, Ok, Result, sym, refl, ap, ◌∙◌, subst, ⊎_elim, arith}
use Rattle.std.specs.Str.{bytes_eq}
use Rattle.std.proofs.lemmas.List.{take_all, take_at, length_push}
use Rattle.std.proofs.lemmas.Slice.Eq.{bytes_eq-Decides}
use Rattle.std.proofs.lemmas.Bool.{cases_Bool, and_parts}
use Rattle.device.specs.declared.page_store.PageFault.{PageFault}
use Rattle.device.specs.Memory.{as_bytes}
use Rattle.device.specs.PageStores as store
use Rattle.device.specs.PageStores.{PageModel, PageRead}
use Rattle.device.specs.LogStores.{LogModel, SlotRead, LogForced, state}
use Rattle.paged_log.specs.PagedLogs.{count_of, slot_in, slot_at, first_slots, log_length, log_of, stands, held, sure, room, paged, found, Says, at_power}
use Rattle.paged_log.specs.PagedLogsSound.{length_first, get_or_first, held_size}
use Rattle.paged_log.proofs.PagedLogEnds.{take_first, length_most}

pub read_page : (m : PageModel) (at : ℕ) (r : Result (List ℕ) PageFault) (page : List ℕ) → PageRead m at r → r ≡ Ok page → page ≡ get_or m.pages at []
read_page m at r page (PageRead.no_power p e) o = absurd cc
read_page m at r page (PageRead.outside p l e) o = absurd cc
read_page m at r page (PageRead.done p l e) o = cc

pub at_this : (m : PageModel) (b : Bool) → m.powered ≡ b → m ≡ at_power b m.pages
at_this m b e = ap (λ (t : Bool). record { pages = m.pages; powered = t }) e

-- the making
module _ (m m' : PageModel) (on : m' ≡ store.powered_on m) (len : ℕ) (ends : len ≡ log_length m'.pages) (last : List ℕ) where
  pub made_log : paged m' len last ≡ found m
  made_log =
      let most = length_most m.pages in
      let least : min (log_length m.pages) (room m) ≡ log_length m.pages = omega arith in
      ap (λ (n : ℕ). paged m' n last) ends ∙ ap (λ (x : PageModel). paged x (log_length x.pages) last) on
      ∙ ap (λ (n : ℕ). record { capacity = room m; slots = first_slots m.pages n; forced = n; powered = true }) least

  pub made_agrees : Says m' (paged m' len last)
  made_agrees = subst (λ (l : LogModel). Says m' l) (sym made_log) (ap (λ (x : PageModel). log_of x.pages) on
      ∙ sym (take_first m.pages (log_length m.pages) (log_length m.pages) (omega arith)))

-- the length, whatever the power
pub slots_size : (m : PageModel) (len : ℕ) (last : List ℕ) → length (paged m len last).slots ≡ min len (room m)
slots_size m len last = held_size m.powered m.pages (min len (room m)) (as_bytes 60 last)

-- with power: every slot stands and is forced
module _ (m : PageModel) (len : ℕ) (last : List ℕ) (on : m.powered ≡ true) where
  pub with_power : paged m len last
      ≡ record { capacity = room m; slots = first_slots m.pages (min len (room m)); forced = min len (room m); powered = true }
  with_power = ap (λ (x : PageModel). paged x len last) (at_this m true on)

  pub read_slot : (n : ℕ) (page found : List ℕ) → n < min len (room m) → page ≡ get_or m.pages (n / 4) [] → found ≡ slot_in page (n % 4)
      → SlotRead (paged m len last) (suc n) (Ok found)
  read_slot n page found inside p f =
      let size = slots_size m len last in
      SlotRead.done on (omega arith) (omega arith) (ap Ok (f ∙ ap (λ (x : List ℕ). slot_in x (n % 4)) p
      ∙ sym (ap (λ (l : LogModel). get_or l.slots n []) with_power ∙ get_or_first m.pages (min len (room m)) n inside)))

  pub forced_all : LogForced (paged m len last) (Ok tt) (paged m len last)
  forced_all = LogForced.done on refl
      (with_power ∙ sym (ap (λ (l : LogModel). state l l.slots (length l.slots) true) with_power
      ∙ ap (λ (n : ℕ). record { capacity = room m; slots = first_slots m.pages (min len (room m)); forced = n; powered = true })
      (length_first m.pages (min len (room m)))))

-- without power the last slot may not be there
stood : (pages : List (List ℕ)) (n : ℕ) (last : List ℕ) → stands pages n last ≡ true → slot_at pages n ≡ last
stood pages n last e = (bytes_eq-Decides (slot_at pages n) last).0 (and_parts (ltb (n % 4) (count_of (get_or pages (n / 4) []))) (bytes_eq (slot_at pages n) last) e).1

pub kept_sure : (pages : List (List ℕ)) (n : ℕ) (last : List ℕ) → take (sure false pages (suc n) last) (held false pages (suc n) last) ≡ first_slots pages (sure false pages (suc n) last)
kept_sure pages n last =
    let size = length_first pages n in
    ⊎_elim
    (λ t. rw t (take_all (suc n) (first_slots pages n ++ last ∷ []) (let l = length_push (first_slots pages n) last in omega arith)
    ∙ ap (λ (x : List ℕ). first_slots pages n ++ x ∷ []) (sym (stood pages n last t))))
    (λ t. rw t (take_at (first_slots pages n) (last ∷ []) n size))
    (cases_Bool (stands pages n last))
