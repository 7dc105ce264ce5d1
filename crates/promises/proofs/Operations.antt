-- Safe operations keep what holds at all times, whatever comes of them: each is done, or power is lost in it. Assumes nothing.
use Rattle.std.proofs.Common.{◌≡◌, ℕ, ◌<◌, ◌≤◌, true, ◌⊎◌, List, [], ◌∷◌, length, get_or, set, replicate, Some, Ok, Err, Result, sym, refl, ap, ◌∙◌, subst, inl, inr, arith}
use Rattle.std.proofs.lemmas.List.{length-set, get_or-set_same, get_or-set_other}
use Rattle.std.proofs.lemmas.Bool.{leb-true, and_parts, cases_eq, both_ways}
use Rattle.format.specs.declared.page.Page.{Page}
use Rattle.format.specs.declared.slot.Slot.{Slot}
use Rattle.format.specs.Changes.{Meaning, Lawful, Content}
use Rattle.format.specs.Pages.{page_bytes, page_of}
use Rattle.format.specs.Slots.{slot_bytes}
use Rattle.device.specs.declared.log_store.LogFault.{LogFault}
use Rattle.device.specs.declared.log_store.LogFault.TheVariants.{PowerLost}
use Rattle.device.specs.declared.page_store.PageFault.{PageFault}
use Rattle.device.specs.declared.page_store.PageFault.TheVariants as page_fault
use Rattle.device.specs.LogStores.{LogModel}
use Rattle.device.specs.PageStores.{PageModel, PageWritten}
use Rattle.recovery_log.specs.Log.{Log}
use Rattle.rules.specs.declared.refusal.Refusal.{Refusal}
use Rattle.rules.specs.Ledger.{Ledger}
use Rattle.rules.specs.Numbers.{number_of}
use Rattle.rules.specs.Plans.{Op, append, force, write, Did, Failed, Performed, done, refusal_of_log, refusal_of_page, with_log, with_pages}
use Rattle.rules.specs.Restart.{whole}
use Rattle.rules.specs.State.{Devices, Memory, World, size, slots, log_length, sizes_legal}
use Rattle.rules.specs.Reading.{known}
use Rattle.promises.proofs.Decoded.{whole_length, SlotPut, SlotKept, AppendOutcome, put, kept, appended_whole, ForceOutcome, forced_whole}
use Rattle.promises.proofs.Fitting.{put_grows, page_written}
use Rattle.promises.proofs.Images.{image_content}
use Rattle.promises.proofs.Invariants.{stored, stored_lrcs, Kept}
use Rattle.promises.proofs.Legal.{count, image, Legal}
use Rattle.promises.proofs.PageCounts.{count_length, count_older}
use Rattle.promises.proofs.Cuts.{older_up_to}
use Rattle.promises.proofs.Safety.{SafeAppend, SafeWrite, Safe, SafeOps, Dids, none, Ended, all_done, lost, Grown}
use Rattle.promises.proofs.States as states
use Rattle.promises.proofs.States.{state_of, kept_by, raised, rewritten}

first : {A B : Type 0} → (B → ⊥) → A ⊎ B → A
first no-b (inl a) = a
first no-b (inr b) = absurd (no-b b)

second : {A B : Type 0} → (A → ⊥) → A ⊎ B → B
second no-a (inl a) = absurd (no-a a)
second no-a (inr b) = b

not_both : {A E : Type 0} (a : A) (e : E) → ◌≡◌ {A = Result A E} (Ok a) (Err e) → ⊥
not_both a e q = let z : ◌≡◌ {A = ℕ} 0 1 = cc in omega arith

pub legal_length : {C : Type 0} (size capacity : ℕ) (L : Log C) → Legal size capacity L → length L ≤ capacity
legal_length size capacity [] h = omega arith
legal_length size capacity (s ∷ L) h = omega (arith, h.2)

-- what the sizes are
pub record Sizes (d : Devices) : Type 0 where
  pub some : 1 ≤ size d
  pub few : size d ≤ 64
  pub long : 8 ≤ d.log.capacity
  pub short : d.log.capacity ≤ 4096

pub sizes_of : (d : Devices) → sizes_legal d ≡ true → Sizes d
sizes_of d e =
    let a = and_parts _ _ e in
    let b = and_parts _ _ a.1 in
    let c = and_parts _ _ b.1 in
    record { some = leb-true _ _ a.0; few = leb-true _ _ b.0; long = leb-true _ _ c.0; short = leb-true _ _ c.1 }

-- what a force leaves
pub record Forced {C : Type 0} (m : Meaning C) (d e : Devices) : Type 0 where
  pub log : whole m e ≡ whole m d
  pub slots : e.log.slots ≡ d.log.slots
  pub pages : e.pages ≡ d.pages
  pub capacity : e.log.capacity ≡ d.log.capacity
  pub all : e.log.forced ≡ log_length e
  pub power : e.log.powered ≡ true

-- what a write of a page leaves
pub record Wrote {C : Type 0} (m : Meaning C) (p : ℕ) (page : Page) (d e : Devices) : Type 0 where
  pub log : e.log ≡ d.log
  pub whole' : whole m e ≡ whole m d
  pub here : stored m e p ≡ page
  pub elsewhere : (q : ℕ) → (q ≡ p → ⊥) → stored m e q ≡ stored m d q
  pub same_size : size e ≡ size d
  pub power : e.pages.powered ≡ true

module _ {C : Type 0} (m : Meaning C) (law : Lawful m) where
  module _ (h : Ledger C) (d : Devices) (k : Kept m h d) where
    -- Appends

    module _ (s : Slot C) (safe : SafeAppend m h d s) (r : Result (Unit {0}) LogFault) (l : LogModel) where
      put_log : SlotPut m d (slot_bytes m s) r l → whole m (with_log d l) ≡ Some s ∷ whole m d
      put_log x = let z = sizes_of d k.durable.sizes in put_grows m law d s r l k.durable.legal safe.fits z.few z.short x

      put_kept : SlotPut m d (slot_bytes m s) r l → Kept m h (with_log d l)
      put_kept x =
          let lo = x.raised in
          let hi = x.held in
          let n = whole_length m d in
          let one = states.put m h (size d) d.log.capacity d.log.forced (whole m d) (stored m d) s (state_of m h d k) safe.fits safe.room safe.alone safe.honest in
          kept_by m h (with_log d l) (size d) d.log.capacity l.forced (Some s ∷ whole m d) (stored m d) refl x.capacity_same refl (put_log x) (λ p. refl)
          (raised m h (size d) d.log.capacity d.log.forced l.forced (Some s ∷ whole m d) (stored m d) lo (omega arith) one)

      same_kept : SlotKept m d (slot_bytes m s) r l → Kept m h (with_log d l)
      same_kept x =
          let lo = x.raised in
          let hi = x.held k.durable.forced in
          let n = whole_length m d in
          kept_by m h (with_log d l) (size d) d.log.capacity l.forced (whole m d) (stored m d) refl x.capacity_same refl x.same (λ p. refl)
          (raised m h (size d) d.log.capacity d.log.forced l.forced (whole m d) (stored m d) lo (omega arith) (state_of m h d k))

    forced_kept : (r : Result (Unit {0}) LogFault) (l : LogModel) → ForceOutcome m d r l → Kept m h (with_log d l)
    forced_kept r l x =
        let f = k.durable.forced in
        let lo = x.raised f in
        let hi = x.held f in
        let n = whole_length m d in
        kept_by m h (with_log d l) (size d) d.log.capacity l.forced (whole m d) (stored m d) refl x.capacity_same refl x.same (λ p. refl)
        (raised m h (size d) d.log.capacity d.log.forced l.forced (whole m d) (stored m d) lo (omega arith) (state_of m h d k))

    -- Writes

    module _ (p : ℕ) (page : Page) (safe : SafeWrite m d p page) where
      page_reads_back : page_of (page_bytes page) ≡ page
      page_reads_back =
          let z = sizes_of d k.durable.sizes in
          let few = z.short in
          let n = legal_length (size d) d.log.capacity (whole m d) k.durable.legal in
          let c = count_length (whole m d) p in
          let b = safe.below in
          page_written page (omega arith) (subst (λ (x : Page). Content x.content) (sym safe.image) (image_content m law (whole m d) p page.lrc))

      module _ (s : PageModel) (is : s.pages ≡ set d.pages.pages p (page_bytes page)) where
        new_size : size (with_pages d s) ≡ size d
        new_size = ap length is ∙ length-set d.pages.pages p (page_bytes page)

        new_whole : whole m (with_pages d s) ≡ whole m d
        new_whole = ap (λ (n : ℕ). known m n 1 (slots d)) new_size

        new_here : stored m (with_pages d s) p ≡ page
        new_here = ap (λ (ps : List (List ℕ)). page_of (get_or ps p (replicate 256 0))) is
            ∙ (ap page_of (get_or-set_same d.pages.pages p (page_bytes page) (replicate 256 0) safe.inside) ∙ page_reads_back)

        new_elsewhere : (q : ℕ) → (q ≡ p → ⊥) → stored m (with_pages d s) q ≡ stored m d q
        new_elsewhere q other = ap (λ (ps : List (List ℕ)). page_of (get_or ps q (replicate 256 0))) is
            ∙ ap page_of (get_or-set_other d.pages.pages p q (page_bytes page) (replicate 256 0) other)

        -- each page is its image, and has no fewer records than before
        record Better (q : ℕ) : Type 0 where
          up : stored_lrcs m d q ≤ stored_lrcs m (with_pages d s) q
          most : stored_lrcs m (with_pages d s) q ≤ count (whole m d) q
          is_image : stored m (with_pages d s) q ≡ image m (whole m d) q (stored_lrcs m (with_pages d s) q)

        better_by : (q : ℕ) (x : Page) → stored m (with_pages d s) q ≡ x → stored_lrcs m d q ≤ x.lrc → x.lrc ≤ count (whole m d) q
            → x ≡ image m (whole m d) q x.lrc → Better q
        better_by q x e a b c = record {
          up = subst (λ (y : Page). stored_lrcs m d q ≤ y.lrc) (sym e) a;
          most = subst (λ (y : Page). y.lrc ≤ count (whole m d) q) (sym e) b;
          is_image = subst (λ (y : Page). y ≡ image m (whole m d) q y.lrc) (sym e) c;
        }

        better : (q : ℕ) → (q ≡ p) ⊎ (q ≡ p → ⊥) → Better q
        better q (inl e) = subst Better (sym e) (better_by p page new_here safe.above safe.below safe.image)
        better q (inr other) = better_by q (stored m d q) (new_elsewhere q other) (omega arith)
            (omega (arith, k.durable.ahead q, count_older _ (whole m d) q (older_up_to d.log.forced (whole m d)))) (k.durable.images q)

        new_kept : Kept m h (with_pages d s)
        new_kept =
            let n = whole_length m d in
            let all = safe.forced in
            kept_by m h (with_pages d s) (size d) d.log.capacity d.log.forced (whole m d) (stored m (with_pages d s)) new_size refl refl new_whole (λ q. refl)
            (rewritten m h (size d) d.log.capacity d.log.forced (whole m d) (stored m d) (stored m (with_pages d s)) (omega arith)
            (λ q. (better q (cases_eq q p)).up) (λ q. (better q (cases_eq q p)).most) (λ q. (better q (cases_eq q p)).is_image) (state_of m h d k))

    -- a page store without power holds what it held
    same_pages_kept : (s : PageModel) → s.pages ≡ d.pages.pages → Kept m h (with_pages d s)
    same_pages_kept s is = kept_by m h (with_pages d s) (size d) d.log.capacity d.log.forced (whole m d) (stored m d) (ap length is) refl refl
        (ap (λ (n : ℕ). known m n 1 (slots d)) (ap length is)) (λ q. ap (λ (ps : List (List ℕ)). page_of (get_or ps q (replicate 256 0))) is) (state_of m h d k)

  -- What is done

  pub did_append : (h : Ledger C) (d e : Devices) (s : Slot C) → Kept m h d → SafeAppend m h d s → Did m (append s) d e → Grown m (s ∷ []) d e
  did_append h d e s k safe (Did.appended {l = l} x) = go (appended_whole m d (slot_bytes m s) (Ok tt) l x)
    where
      go : AppendOutcome m d (slot_bytes m s) (Ok tt) l → Grown m (s ∷ []) d (with_log d l)
      go (put y) = let n = y.length_is in let hi = y.held in record {
        log = put_log h d k s safe (Ok tt) l y;
        pages = refl;
        capacity = y.capacity_same;
        raised = y.raised;
        held = omega arith;
        power = λ t. (first (λ a. not_both _ _ a.0) y.answer).1;
      }
      go (kept y) = absurd (both_ways _ y.refused refl)

  pub did_force : (d e : Devices) → Did m force d e → Forced m d e
  did_force d e (Did.forced {l = l} x) =
      let y = forced_whole m d (Ok tt) l x in
      let a = first (λ b. not_both _ _ b.0) y.answer in
      record {
        log = y.same;
        slots = y.slots_same;
        pages = refl;
        capacity = y.capacity_same;
        all = a.1 ∙ sym (ap length y.slots_same);
        power = a.2;
      }

  pub did_write : (h : Ledger C) (d e : Devices) (p : ℕ) (page : Page) → Kept m h d → SafeWrite m d p page → Did m (write p page) d e → Wrote m p page d e
  did_write h d e p page k safe (Did.wrote {s = s} x) = go x
    where
      made : (s : PageModel) → s.pages ≡ set d.pages.pages p (page_bytes page) → s.powered ≡ true → Wrote m p page d (with_pages d s)
      made s is power = record {
        log = refl;
        whole' = new_whole h d k p page safe s is;
        here = new_here h d k p page safe s is;
        elsewhere = new_elsewhere h d k p page safe s is;
        same_size = new_size h d k p page safe s is;
        power = power;
      }

      go : PageWritten d.pages p (page_bytes page) (Ok tt) s → Wrote m p page d (with_pages d s)
      go (PageWritten.no_power t q a) = absurd (not_both _ _ q)
      go (PageWritten.outside t o q a) = absurd (not_both _ _ q)
      go (PageWritten.done t o q a) = made s (ap (λ (y : PageModel). y.pages) a) (ap (λ (y : PageModel). y.powered) a ∙ t)
      go (PageWritten.lost_old t o q a) = absurd (not_both _ _ q)
      go (PageWritten.lost_new t o q a) = absurd (not_both _ _ q)

  -- What comes of a safe operation

  written_kept : (h : Ledger C) (d : Devices) (p : ℕ) (page : Page) (r : Result (Unit {0}) PageFault) (s : PageModel) → Kept m h d → SafeWrite m d p page
      → PageWritten d.pages p (page_bytes page) r s → Kept m h (with_pages d s)
  written_kept h d p page r s k safe (PageWritten.no_power t q a) = same_pages_kept h d k s (ap (λ (y : PageModel). y.pages) a)
  written_kept h d p page r s k safe (PageWritten.outside t o q a) = same_pages_kept h d k s (ap (λ (y : PageModel). y.pages) a)
  written_kept h d p page r s k safe (PageWritten.done t o q a) = new_kept h d k p page safe s (ap (λ (y : PageModel). y.pages) a)
  written_kept h d p page r s k safe (PageWritten.lost_old t o q a) = same_pages_kept h d k s (ap (λ (y : PageModel). y.pages) a)
  written_kept h d p page r s k safe (PageWritten.lost_new t o q a) = new_kept h d k p page safe s (ap (λ (y : PageModel). y.pages) a)

  appended_kept : (h : Ledger C) (d : Devices) (s : Slot C) (r : Result (Unit {0}) LogFault) (l : LogModel) → Kept m h d → SafeAppend m h d s
      → AppendOutcome m d (slot_bytes m s) r l → Kept m h (with_log d l)
  appended_kept h d s r l k safe (put x) = put_kept h d k s safe r l x
  appended_kept h d s r l k safe (kept x) = same_kept h d k s safe r l x

  pub safe_did : (h : Ledger C) (op : Op C) (d e : Devices) → Kept m h d → Safe m h op d → Did m op d e → Kept m h e
  safe_did h (append s) d e k safe (Did.appended {l = l} x) = appended_kept h d s (Ok tt) l k safe (appended_whole m d (slot_bytes m s) (Ok tt) l x)
  safe_did h force d e k safe (Did.forced {l = l} x) = forced_kept h d k (Ok tt) l (forced_whole m d (Ok tt) l x)
  safe_did h (write p page) d e k safe (Did.wrote {s = s} x) = written_kept h d p page (Ok tt) s k safe x

  log_lost : (f : LogFault) (n : ℕ) → ◌≡◌ {A = Result (Unit {0}) LogFault} (Err f) (Err (PowerLost n)) → number_of (refusal_of_log f) ≡ 17
  log_lost f n q = let e : f ≡ PowerLost n = cc in ap (λ (x : LogFault). number_of (refusal_of_log x)) e

  page_lost : (f : PageFault) (n : ℕ) → ◌≡◌ {A = Result (Unit {0}) PageFault} (Err f) (Err (page_fault.PowerLost n)) → number_of (refusal_of_page f) ≡ 17
  page_lost f n q = let e : f ≡ page_fault.PowerLost n = cc in ap (λ (x : PageFault). number_of (refusal_of_page x)) e

  -- a log with room is not full
  append_lost : (h : Ledger C) (d : Devices) (s : Slot C) (f : LogFault) (l : LogModel) → SafeAppend m h d s → AppendOutcome m d (slot_bytes m s) (Err f) l
      → number_of (refusal_of_log f) ≡ 17
  append_lost h d s f l safe (put x) = log_lost f _ (second (λ a. not_both _ _ (sym a.0)) x.answer).0
  append_lost h d s f l safe (kept x) = log_lost f _ (second (λ a. omega (arith, a.1, safe.room, whole_length m d)) x.answer).0

  -- a page in the store is not outside
  write_lost : (d : Devices) (p : ℕ) (b : List ℕ) (f : PageFault) (s : PageModel) → p < size d → PageWritten d.pages p b (Err f) s → number_of (refusal_of_page f) ≡ 17
  write_lost d p b f s lt (PageWritten.no_power t q a) = page_lost f p q
  write_lost d p b f s lt (PageWritten.outside t o q a) = absurd (omega arith)
  write_lost d p b f s lt (PageWritten.done t o q a) = absurd (not_both _ _ (sym q))
  write_lost d p b f s lt (PageWritten.lost_old t o q a) = page_lost f p q
  write_lost d p b f s lt (PageWritten.lost_new t o q a) = page_lost f p q

  pub safe_failed : (h : Ledger C) (op : Op C) (d e : Devices) (why : Refusal) → Kept m h d → Safe m h op d → Failed m op d why e → Kept m h e × (number_of why ≡ 17)
  safe_failed h (append s) d e why k safe (Failed.append_failed {f = f} {l = l} x) =
      let o = appended_whole m d (slot_bytes m s) (Err f) l x in
      (appended_kept h d s (Err f) l k safe o, append_lost h d s f l safe o)
  safe_failed h force d e why k safe (Failed.force_failed {f = f} {l = l} x) =
      let o = forced_whole m d (Err f) l x in
      (forced_kept h d k (Err f) l o, log_lost f _ (second (λ a. not_both _ _ (sym a.0)) o.answer).0)
  safe_failed h (write p page) d e why k safe (Failed.write_failed {f = f} {s = s} x) =
      (written_kept h d p page (Err f) s k safe x, write_lost d p (page_bytes page) f s safe.inside x)

  pub performed_safe : {A : Type 0} (h : Ledger C) (answer : Result A Refusal) (after : Memory) (ops : List (Op C)) (d : Devices) (r : Result A Refusal) (w : World)
      → Kept m h d → SafeOps m h ops d → Performed m answer after ops d r w → Ended m h answer after ops d r w
  performed_safe h answer after [] d r w k safe done = all_done refl refl none k
  performed_safe h answer after (op ∷ ops) d r w k safe (Performed.next {e = e} x p) =
      go (performed_safe h answer after ops e r w (safe_did h op d e k safe.0 x) (safe.1 e x) p)
    where
      go : Ended m h answer after ops e r w → Ended m h answer after (op ∷ ops) d r w
      go (all_done a b ds k') = all_done a b (Dids.next x ds) k'
      go (lost why a n b k') = lost why a n b k'
  performed_safe h answer after (op ∷ ops) d r w k safe (Performed.failed {e = e} {f = f} x) =
      let y = safe_failed h op d e f k safe.0 x in lost f refl y.1 refl y.0
