-- An append and a power-on of a log on pages, over its model.
use Rattle.std.proofs.Common.{◌≡◌, ℕ, suc, ◌+◌, ◌*◌, ◌/◌, ◌%◌, ◌<◌, ◌≤◌, min, Bool, true, false, cond, ltb, List, [], ◌∷◌, ◌++◌, length, get_or, take, Ok, Err, Result, sym, refl, ap, ◌∙◌, subst, arith}
use Rattle.std.specs.Str.{bytes_eq}
use Rattle.std.proofs.lemmas.List.{take-take}
use Rattle.std.proofs.lemmas.Slice.Eq.{bytes_eq-Decides}
use Rattle.std.proofs.lemmas.Bool.{cond_both, and_from, and_left, lt-ltb, le-ltb}
use Rattle.format.specs.Bytes.{Bytes}
use Rattle.device.specs.declared.page_store.PageFault.{PageFault}
use Rattle.device.specs.declared.page_store.PageFault.TheVariants.{PowerLost}
use Rattle.device.specs.declared.log_store.LogFault.{LogFault}
use Rattle.device.specs.declared.log_store.LogFault.TheVariants as fault
use Rattle.device.specs.Memory.{as_bytes}
use Rattle.device.specs.PageStores as store
use Rattle.device.specs.PageStores.{PageModel, SoundPages}
use Rattle.device.specs.LogStores.{LogModel, SlotAppended, LogForced, powered_on}
use Rattle.paged_log.specs.PagedLogs.{count_of, slot_at, first_slots, log_length, log_of, stands, held, sure, room, paged, Says, room_made, put_slot, at_power, appended, Made, SlotPut}
use Rattle.paged_log.specs.PagedLogsSound.{length_first}
use Rattle.paged_log.proofs.PagedLogEnds.{first_same, take_first, count_there}
use Rattle.paged_log.proofs.PagedLogSteps.{kept_by_room, room_size, slots_by_room, end_by_room, next_blank, put_size, put_there, put_kept, put_count, put_end}
use Rattle.device.proofs.Rows.{as_bytes_is}
use Rattle.paged_log.proofs.PagedLogModel.{at_this, slots_size, with_power, kept_sure}

-- a fault of a page, as the log reports it
abbrev pub slot_fault : {T : Type 0} → Result T PageFault → ℕ → Result T LogFault
slot_fault (Ok x) slot = Ok x
slot_fault (Err f) slot = Err (fault.PowerLost slot)

pub lost_already : (m : PageModel) (len : ℕ) (last slot : List ℕ) → m.powered ≡ false
    → SlotAppended (paged m len last) slot (Err (fault.PowerLost (min len (room m) + 1))) (paged m len last)
lost_already m len last slot off =
    SlotAppended.no_power off (ap (λ (n : ℕ). Err (fault.PowerLost n)) (let n = slots_size m len last in omega arith)) refl

pub full_already : (m : PageModel) (len : ℕ) (last slot : List ℕ) → m.powered ≡ true → room m ≤ min len (room m)
    → SlotAppended (paged m len last) slot (Err fault.Full) (paged m len last)
full_already m len last slot on full = SlotAppended.full on (let n = slots_size m len last in omega arith) refl refl

pub force_lost : (m : PageModel) (len : ℕ) (last : List ℕ) → m.powered ≡ false
    → LogForced (paged m len last) (Err (fault.PowerLost (min len (room m)))) (paged m len last)
force_lost m len last off = LogForced.no_power off (ap (λ (n : ℕ). Err (fault.PowerLost n)) (sym (slots_size m len last))) refl

-- a log of the first n slots of the pages, all forced
abbrev whole_log : List (List ℕ) → ℕ → LogModel
whole_log pages n = record { capacity = 4 * length pages; slots = first_slots pages n; forced = n; powered = true }

-- slot n is put
module _ (pages : List (List ℕ)) (n : ℕ) (inside : n < 4 * length pages) (whole : (p : ℕ) → p < length pages → length (get_or pages p []) ≡ 256)
    (slot : List ℕ) (fits : Bytes 60 slot) where
  abbrev roomy : List (List ℕ)
  roomy = room_made pages n

  abbrev new : List (List ℕ)
  new = put_slot (room_made pages n) n slot

  as_is : as_bytes 60 slot ≡ slot
  as_is = as_bytes_is 60 slot fits.size fits.small

  roomy_inside : n < 4 * length (room_made pages n)
  roomy_inside = let s = room_size pages n in omega arith

  roomy_whole : length (get_or (room_made pages n) (n / 4) []) ≡ 256
  roomy_whole = ap length (kept_by_room pages n (n / 4) (omega arith)) ∙ whole (n / 4) (omega arith)

  new_size : length new ≡ length pages
  new_size = put_size roomy n roomy_inside roomy_whole slot fits.size ∙ room_size pages n

  roomy_slots : first_slots roomy n ≡ first_slots pages n
  roomy_slots = first_same roomy pages n (slots_by_room pages n)

  new_slots : first_slots new n ≡ first_slots pages n
  new_slots = first_same new roomy n (put_kept roomy n roomy_inside roomy_whole slot fits.size) ∙ roomy_slots

  new_there : slot_at new n ≡ slot
  new_there = put_there roomy n roomy_inside roomy_whole slot fits.size

  -- the slot is there, with power
  put_done : paged (at_power true new) (n + 1) slot ≡ record { capacity = 4 * length pages; slots = first_slots pages n ++ slot ∷ []; forced = suc n; powered = true }
  put_done =
      let size = new_size in
      let one : min (n + 1) (4 * length new) ≡ suc n = omega arith in
      ap (λ (k : ℕ). whole_log new k) one
      ∙ ap (λ (k : ℕ). record { capacity = 4 * k; slots = first_slots new (suc n); forced = suc n; powered = true }) size
      ∙ ap (λ (l : List (List ℕ)). record { capacity = 4 * length pages; slots = l; forced = suc n; powered = true })
      (ap (λ (l : List (List ℕ)). l ++ slot_at new n ∷ []) new_slots ∙ ap (λ (x : List ℕ). first_slots pages n ++ x ∷ []) new_there)

  -- power is lost, and the slots before are as they were
  module _ (left : List (List ℕ)) (left-size : length left ≡ length pages) (left-slots : first_slots left n ≡ first_slots pages n) where
    -- the log of k slots and this last one
    abbrev lost : ℕ → List ℕ → LogModel
    lost k x = record { capacity = 4 * length left; slots = held false left k x; forced = sure false left k x; powered = false }

    in_range : paged (at_power false left) (n + 1) slot
        ≡ record { capacity = 4 * length left; slots = held false left (suc n) slot; forced = sure false left (suc n) slot; powered = false }
    in_range =
        let one : min (n + 1) (4 * length left) ≡ suc n = omega arith in
        ap (λ (k : ℕ). lost k (as_bytes 60 slot)) one ∙ ap (lost (suc n)) as_is

    put_lost : paged (at_power false left) (n + 1) slot
        ≡ record { capacity = 4 * length pages; slots = first_slots pages n ++ slot ∷ []; forced = sure false left (suc n) slot; powered = false }
    put_lost =
        in_range
        ∙ ap (λ (k : ℕ). record { capacity = 4 * k; slots = held false left (suc n) slot; forced = sure false left (suc n) slot; powered = false }) left-size
        ∙ ap (λ (l : List (List ℕ)). record { capacity = 4 * length pages; slots = l ++ slot ∷ []; forced = sure false left (suc n) slot; powered = false }) left-slots

    says_lost : log_length left ≡ sure false left (suc n) slot → Says (at_power false left) (paged (at_power false left) (n + 1) slot)
    says_lost e = subst (λ (l : LogModel). Says (at_power false left) l) (sym in_range) (ap (first_slots left) e ∙ sym (kept_sure left n slot))

    append_lost : SlotAppended (whole_log pages n) slot (Err (fault.PowerLost (n + 1))) (paged (at_power false left) (n + 1) slot)
    append_lost =
        let size = length_first pages n in
        let t = stands left n slot in
        SlotAppended.lost_after refl (omega arith) (sure false left (suc n) slot)
        (cond_both t (suc n) n (λ k. n ≤ k) (λ e. omega arith) (λ e. omega arith))
        (cond_both t (suc n) n (λ k. k ≤ suc (length (first_slots pages n))) (λ e. omega arith) (λ e. omega arith))
        (ap (λ (k : ℕ). Err (fault.PowerLost k)) (omega arith)) put_lost

  -- where the pages end, and whether the slot stands
  stands_not : (left : List (List ℕ)) → n < 4 * length left → log_length left ≡ n → log_length left ≡ sure false left (suc n) slot
  stands_not left h e =
      let there = count_there left (n / 4) (n % 4) (omega arith) (omega arith) (omega arith) in
      let no_slot : stands left n slot ≡ false = and_left (ltb (n % 4) (count_of (get_or left (n / 4) []))) (bytes_eq (slot_at left n) slot) (le-ltb (n % 4) (count_of (get_or left (n / 4) [])) (omega arith)) in
      e ∙ sym (ap (λ (t : Bool). cond t (suc n) n) no_slot)

  new_end : log_length pages ≡ n → log_length new ≡ suc n
  new_end ends = put_end roomy n roomy_inside roomy_whole slot fits.size (end_by_room pages n inside ends)
      (λ three more. next_blank pages n three (let s = room_size pages n in omega arith))

  stands_new : log_length pages ≡ n → log_length new ≡ sure false new (suc n) slot
  stands_new ends =
      let count = put_count roomy n roomy_inside roomy_whole slot fits.size in
      let there : stands new n slot ≡ true = and_from (ltb (n % 4) (count_of (get_or new (n / 4) []))) (bytes_eq (slot_at new n) slot)
      (lt-ltb (n % 4) (count_of (get_or new (n / 4) [])) (omega arith)) ((bytes_eq-Decides (slot_at new n) slot).1 new_there) in
      new_end ends ∙ sym (ap (λ (t : Bool). cond t (suc n) n) there)

  -- what an append makes of the log, by what putting its slot answers
  pub record AppendedTo (before : LogModel) (r : Result (Unit {0}) PageFault) (after : PageModel) : Type 0 where
    pub outcome : SlotAppended before slot (slot_fault r (n + 1)) (paged after (n + 1) slot)
    pub written : slot_fault r (n + 1) ≡ Ok tt → after ≡ at_power true new
    pub says : log_length pages ≡ n → Says after (paged after (n + 1) slot)

  lost_with : (left : List (List ℕ)) (page : ℕ) → length left ≡ length pages → first_slots left n ≡ first_slots pages n
      → (log_length pages ≡ n → log_length left ≡ sure false left (suc n) slot) → AppendedTo (whole_log pages n) (Err (PowerLost page)) (at_power false left)
  lost_with left page size same end = record { outcome = append_lost left size same; written = λ e. absurd cc; says = λ ends. says_lost left size same (end ends) }

  appended_to : (r : Result (Unit {0}) PageFault) (after : PageModel) → SlotPut pages n slot r after → AppendedTo (whole_log pages n) r after
  appended_to r after (SlotPut.room_lost page e s) = rw (e, s) (lost_with pages page refl refl (λ ends. stands_not pages inside ends))
  appended_to r after (SlotPut.put (Made.done e s)) = rw (e, s) (record {
    outcome = let size = length_first pages n in SlotAppended.done refl (omega arith) (suc n) (omega arith) (omega arith) refl put_done;
    written = λ _. refl;
    says = λ ends.
        let k = min (n + 1) (4 * length new) in
        let one : k ≡ suc n = let size = new_size in omega arith in
        ap (first_slots new) (new_end ends ∙ sym one) ∙ sym (take_first new k k (omega arith));
  })
  appended_to r after (SlotPut.put (Made.lost page e s)) =
      rw (e, s) (lost_with roomy page (room_size pages n) roomy_slots (λ ends. stands_not roomy roomy_inside (end_by_room pages n inside ends)))
  appended_to r after (SlotPut.put (Made.lost_new page e s)) = rw (e, s) (lost_with new page new_size new_slots stands_new)

-- the same of a log with a remembered length
module _ (m : PageModel) (on : m.powered ≡ true) (sound : SoundPages m) (len : ℕ) (last slot : List ℕ) (fits : Bytes 60 slot)
    (n : ℕ) (length_is : n ≡ min len (room m)) (inside : n < room m) where
  before : paged m len last ≡ whole_log m.pages n
  before = with_power m len last on ∙ ap (whole_log m.pages) (sym length_is)

  ends_there : Says m (paged m len last) → log_length m.pages ≡ n
  ends_there says =
      let same = subst (λ (l : LogModel). Says m l) before says ∙ take_first m.pages n n (omega arith) in
      sym (length_first m.pages (log_length m.pages)) ∙ ap length same ∙ length_first m.pages n

  whole_pages : (p : ℕ) → p < length m.pages → length (get_or m.pages p []) ≡ 256
  whole_pages p h = (sound.each p h).size

  pub record AppendedLog (r : Result (Unit {0}) PageFault) (after : PageModel) : Type 0 where
    pub outcome : SlotAppended (paged m len last) slot (slot_fault r (n + 1)) (paged after (n + 1) slot)
    pub written : slot_fault r (n + 1) ≡ Ok tt → after ≡ appended m len slot
    pub agrees : Says m (paged m len last) → Says after (paged after (n + 1) slot)

  pub append_put : (r : Result (Unit {0}) PageFault) (after : PageModel) → SlotPut m.pages n slot r after → AppendedLog r after
  append_put r after putting =
      let to = appended_to m.pages n inside whole_pages slot fits r after putting in
      record {
        outcome = subst (λ (l : LogModel). SlotAppended l slot (slot_fault r (n + 1)) (paged after (n + 1) slot)) (sym before) to.outcome;
        written = λ e. to.written e ∙ ap (λ (k : ℕ). at_power true (put_slot (room_made m.pages k) k slot)) length_is;
        agrees = λ says. to.says (ends_there says);
      }

-- power comes back
pub says_on : (m m' : PageModel) (l l' : LogModel) → m' ≡ store.powered_on m → l' ≡ powered_on l → Says m l → Says m' l'
says_on m m' l l' e f says =
    ap (λ (x : PageModel). log_of x.pages) e ∙ says ∙ sym (take-take l.forced l.forced l.slots (omega arith))
    ∙ sym (ap (λ (x : LogModel). take x.forced x.slots) f)

module _ (m m' : PageModel) (e : m' ≡ store.powered_on m) (len : ℕ) (last : List ℕ) where
  on_now : (k : ℕ) → paged m' k last ≡ whole_log m.pages (min k (room m))
  on_now k = ap (λ (x : PageModel). paged x k last) e

  pub on_already : m.powered ≡ true → paged m' len last ≡ powered_on (paged m len last)
  on_already on = on_now len ∙ sym (ap powered_on (with_power m len last on)
      ∙ ap (λ (l : List (List ℕ)). record { capacity = room m; slots = l; forced = min len (room m); powered = true })
      (take_first m.pages (min len (room m)) (min len (room m)) (omega arith)))

  -- power was lost in the append of slot k
  module _ (off : m.powered ≡ false) (is_whole : as_bytes 60 last ≡ last) (k : ℕ) (one : min len (room m') ≡ suc k) where
    -- the log with power again, of j slots and this last one
    abbrev back : ℕ → List ℕ → LogModel
    back j x = record { capacity = room m; slots = take (sure false m.pages j x) (held false m.pages j x); forced = sure false m.pages j x; powered = true }

    cut : powered_on (paged m len last) ≡ whole_log m.pages (sure false m.pages (suc k) last)
    cut =
        let here : min len (room m) ≡ suc k = let same = ap room e in omega arith in
        ap (λ (x : PageModel). powered_on (paged x len last)) (at_this m false off)
        ∙ ap (λ (j : ℕ). back j (as_bytes 60 last)) here ∙ ap (back (suc k)) is_whole
        ∙ ap (λ (l : List (List ℕ)). record { capacity = room m; slots = l; forced = sure false m.pages (suc k) last; powered = true }) (kept_sure m.pages k last)

    -- what is left of the log, by whether the slot stands
    pub record LeftOn (left : ℕ) : Type 0 where
      pub on : paged m' left last ≡ powered_on (paged m len last)
      pub agrees : Says m (paged m len last) → Says m' (paged m' left last)

    pub left_on : (t : Bool) → t ≡ stands m'.pages k last → (left : ℕ) → min left (room m') ≡ cond t (suc k) k → LeftOn left
    left_on t looked left is =
        let here : min left (room m) ≡ cond t (suc k) k = let same = ap room e in omega arith in
        let stood : stands m.pages k last ≡ t = sym (looked ∙ ap (λ (x : PageModel). stands x.pages k last) e) in
        let on = on_now left ∙ ap (whole_log m.pages) here ∙ sym (cut ∙ ap (λ (b : Bool). whole_log m.pages (cond b (suc k) k)) stood) in
        record { on = on; agrees = says_on m m' (paged m len last) (paged m' left last) e on }
