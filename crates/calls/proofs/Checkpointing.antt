-- The slots of a checkpoint: one after the other, and that they are what the rules say. Assumes nothing.
use Rattle.std.proofs.Common.{◌≡◌, ℕ, suc, ◌+◌, ◌<◌, true, is_some, List, [], ◌∷◌, ◌++◌, map, take, drop, length, length-append, count_by, cond, Bool, if◌then◌else◌, Ok, Err, Result, get_or, Some, None, Option, append_assoc, append-nil, refl, sym, ap, subst, ◌∙◌, arith}
use Rattle.std.proofs.lemmas.List.{take_more, take-append-drop, map-append, length-take-le}
use Rattle.std.proofs.lemmas.List.Sums.{sum_by-cons}
use Rattle.std.proofs.Math.Seq.{drop-cons}
use Rattle.format.specs.declared.page.Page.{Page}
use Rattle.format.specs.declared.slot.Slot.TheVariants.{Checkpoint}
use Rattle.format.specs.declared.slot.CheckpointPart.TheVariants.{Begin, OpenJob, Complete}
use Rattle.format.specs.Bytes.{number_at}
use Rattle.format.specs.Changes.{Meaning}
use Rattle.recovery_log.specs.Log.{Log}
use Rattle.rules.specs.declared.refusal.Refusal.{Refusal}
use Rattle.rules.specs.declared.refusal.Refusal.TheVariants.{LogFull}
use Rattle.rules.specs.declared.table.JobEntry.{JobEntry}
use Rattle.rules.specs.Plans.{Op, append, force, Performed}
use Rattle.rules.specs.Playing.{first_lacked}
use Rattle.rules.specs.Reading.{known}
use Rattle.rules.specs.Service.{page_entry, page_entries, job_entries, checkpoint_slots, checkpoint_in, has_room, log_read}
use Rattle.rules.specs.State.{Devices, Working, out, serving, World, is_serving, working, size, slots, next_slot}
use Rattle.rules.specs.Tables.{Jobs, Dirty}
use Rattle.calls.specs.declared.state.Stage.{Stage}
use Rattle.calls.specs.declared.state.Stage.TheVariants.{Serving}
use Rattle.calls.specs.Memories.{memory_of}
use Rattle.calls.specs.Outcomes.{Ready, asked}
use Rattle.calls.specs.Parts.{entries_of, slots_of}
use Rattle.calls.proofs.Serving.{few_slots, in_order, working_of}
use Rattle.calls.proofs.Stages.{opened}

-- a row up to an item, the item, and the rest
split_at : {A : Type 0} (xs : List A) (n : ℕ) (d : A) → n < length xs → xs ≡ take n xs ++ get_or xs n d ∷ drop (suc n) xs
split_at xs n d lt = sym (take-append-drop n xs) ∙ ap (λ ys. take n xs ++ ys) (drop-cons xs n d lt)

module _ {C : Type 0} (m : Meaning C) where
  -- The operations for a row of pages, and of jobs

  abbrev pub page_ops : ℕ → List (Option ℕ) → List (Op C)
  page_ops p firsts = map append (entries_of m p firsts)

  abbrev pub job_ops : Jobs → List (Op C)
  job_ops jobs = map append (job_entries m jobs)

  pages_both : (p : ℕ) (xs ys : List (Option ℕ)) → page_ops p (xs ++ ys) ≡ page_ops p xs ++ page_ops (p + length xs) ys
  pages_both p [] ys = let k : p + 0 ≡ p = omega arith in rw k refl
  pages_both p (x ∷ xs) ys =
      let k : p + suc (length xs) ≡ suc p + length xs = omega arith in
      rw (k, map-append append (page_entry m p x) (entries_of m (suc p) (xs ++ ys)), map-append append (page_entry m p x) (entries_of m (suc p) xs), pages_both (suc p) xs ys)
      (sym (append_assoc (map append (page_entry m p x)) (page_ops (suc p) xs) (page_ops (suc p + length xs) ys)))

  jobs_both : (xs ys : Jobs) → job_ops (xs ++ ys) ≡ job_ops xs ++ job_ops ys
  jobs_both [] ys = refl
  jobs_both (x ∷ xs) ys = ap (λ ops. append (Checkpoint (OpenJob x.job x.next)) ∷ ops) (jobs_both xs ys)

  module _ (firsts : List (Option ℕ)) (n : ℕ) (lt : n < length firsts) (first : Option ℕ) (is : get_or firsts n None ≡ first) where
    pub page_more : page_ops 0 (take (n + 1) firsts) ≡ page_ops 0 (take n firsts) ++ map append (page_entry m n first)
    page_more = ap (page_ops 0) (take_more firsts n None lt) ∙ (pages_both 0 (take n firsts) (get_or firsts n None ∷ [])
        ∙ (let z : 0 + n ≡ n = omega arith in rw (is, length-take-le n firsts (omega arith), z, append-nil (page_entry m n first)) refl))

    pub page_there : page_ops 0 firsts ≡ page_ops 0 (take n firsts) ++ (map append (page_entry m n first) ++ page_ops (suc n) (drop (suc n) firsts))
    page_there = ap (page_ops 0) (split_at firsts n None lt) ∙ (pages_both 0 (take n firsts) (get_or firsts n None ∷ drop (suc n) firsts)
        ∙ (let z : 0 + n ≡ n = omega arith in rw (is, length-take-le n firsts (omega arith), z, map-append append (page_entry m n first) (entries_of m (suc n) (drop (suc n) firsts))) refl))

  module _ (jobs : Jobs) (n : ℕ) (x : JobEntry) (lt : n < length jobs) where
    pub job_more : job_ops (take (n + 1) jobs) ≡ job_ops (take n jobs) ++ job_ops (get_or jobs n x ∷ [])
    job_more = ap job_ops (take_more jobs n x lt) ∙ jobs_both (take n jobs) (get_or jobs n x ∷ [])

    pub job_there : job_ops jobs ≡ job_ops (take n jobs) ++ job_ops (get_or jobs n x ∷ drop (suc n) jobs)
    job_there = ap job_ops (split_at jobs n x lt) ∙ jobs_both (take n jobs) (get_or jobs n x ∷ drop (suc n) jobs)

  -- the operations of a checkpoint, part by part
  pub checkpoint_ops : (begin : ℕ) (firsts : List (Option ℕ)) (jobs : Jobs) → map append (slots_of m begin firsts jobs) ++ force ∷ []
      ≡ append (Checkpoint Begin) ∷ (page_ops 0 firsts ++ (job_ops jobs ++ (append (Checkpoint (Complete begin)) ∷ force ∷ [])))
  checkpoint_ops begin firsts jobs =
      rw (map-append append (entries_of m 0 firsts) (job_entries m jobs ++ Checkpoint (Complete begin) ∷ []), map-append append (job_entries m jobs) (Checkpoint (Complete begin) ∷ []))
      (ap (λ ops. append (Checkpoint Begin) ∷ ops) (append_assoc (page_ops 0 firsts) (job_ops jobs ++ append (Checkpoint (Complete begin)) ∷ []) (force ∷ [])
      ∙ ap (λ ops. page_ops 0 firsts ++ ops) (append_assoc (job_ops jobs) (append (Checkpoint (Complete begin)) ∷ []) (force ∷ []))))

  -- What is read: from the stored LRCs, for each stored page what it lacks

  pub all_lacked : (w : World) → Ready m w → (lrcs kept : List ℕ) (firsts : List (Option ℕ)) → ((p : ℕ) → p < size w.devices → get_or lrcs p 0 ≡ number_at (get_or w.devices.pages.pages p []) 0)
      → kept ≡ lrcs → ((p : ℕ) → p < 64 → get_or firsts p None ≡ first_lacked p (get_or kept p 0) (log_read m w.devices (working w.memory)))
      → (p : ℕ) → p < size w.devices → get_or firsts p None ≡ first_lacked p (number_at (get_or w.devices.pages.pages p []) 0) (log_read m w.devices (working w.memory))
  all_lacked w ready lrcs kept firsts stored same found p lt =
      let few = (few_slots w.devices (in_order m w ready).reads_on.sizes).0 in
      found p (omega arith) ∙ ap (λ l. first_lacked p l (log_read m w.devices (working w.memory))) (ap (λ ls. get_or ls p 0) same ∙ stored p lt)

  -- What is appended is what the rules say

  abbrev Found : Log C → ℕ → List (List ℕ) → List (Option ℕ) → Type 0
  Found L p pages firsts = (i : ℕ) → i < length pages → get_or firsts i None ≡ first_lacked (p + i) (number_at (get_or pages i []) 0) L

  none_are : (L : Log C) (p : ℕ) (pages : List (List ℕ)) → Found L p pages [] → [] ≡ page_entries m L p pages
  none_are L p [] found = refl
  none_are L p (b ∷ bs) found =
      let z : p + 0 ≡ p = omega arith in
      let none : None ≡ first_lacked p (number_at b 0) L = rw z at (found 0 (omega arith)) in
      rw (sym none) (none_are L (suc p) bs (λ i lt. let k : p + suc i ≡ suc p + i = omega arith in rw k at (found (suc i) (omega arith))))

  entries_are : (L : Log C) (p : ℕ) (pages : List (List ℕ)) (firsts : List (Option ℕ)) → Found L p pages firsts → entries_of m p (take (length pages) firsts) ≡ page_entries m L p pages
  entries_are L p [] firsts found = refl
  entries_are L p (b ∷ bs) [] found = none_are L p (b ∷ bs) found
  entries_are L p (b ∷ bs) (f ∷ fs) found =
      let z : p + 0 ≡ p = omega arith in
      let here : f ≡ first_lacked p (number_at b 0) L = rw z at (found 0 (omega arith)) in
      rw (sym here) (ap (λ es. page_entry m p f ++ es) (entries_are L (suc p) bs fs (λ i lt. let k : p + suc i ≡ suc p + i = omega arith in rw k at (found (suc i) (omega arith)))))

  count_is : (p : ℕ) (firsts : List (Option ℕ)) → count_by is_some firsts ≡ length (entries_of m p firsts)
  count_is p [] = refl
  count_is p (None ∷ fs) = let k = count_is (suc p) fs in omega arith
  count_is p (Some f ∷ fs) = let k = count_is (suc p) fs in let one : count_by is_some (Some f ∷ fs) ≡ 1 + count_by is_some fs = sum_by-cons (λ x. cond (is_some x) 1 0) (Some f) fs in omega arith

  jobs_count : (jobs : Jobs) → length (job_entries m jobs) ≡ length jobs
  jobs_count [] = refl
  jobs_count (x ∷ xs) = ap suc (jobs_count xs)

  how_many : (begin : ℕ) (firsts : List (Option ℕ)) (jobs : Jobs) → 2 + count_by is_some firsts + length jobs ≡ length (slots_of m begin firsts jobs)
  how_many begin firsts jobs =
      let a = length-append (entries_of m 0 firsts) (job_entries m jobs ++ Checkpoint (Complete begin) ∷ []) in
      let b : length (job_entries m jobs ++ Checkpoint (Complete begin) ∷ []) ≡ length (job_entries m jobs) + 1 = length-append (job_entries m jobs) (Checkpoint (Complete begin) ∷ []) in
      let k = count_is 0 firsts in let l = jobs_count jobs in omega arith

  asks_so : (d : Devices) (s : Working) (n : ℕ) (b : Bool) (r : Result (Unit {0}) Refusal) → n ≡ length (checkpoint_slots m d s) → b ≡ has_room m d s n
      → r ≡ (if b then Ok tt else Err LogFull) → r ≡ asked (checkpoint_in m d s)
  asks_so d s n b r e q z = z ∙ ap (λ b. cond b (Ok tt) (Err LogFull)) (q ∙ ap (has_room m d s) e)

  -- the fields of the opened state of a server that serves
  module _ (d : Devices) (stage : Stage) (jobs : Jobs) (dirty : Dirty) (copies : List Page) (first : ℕ) {u : World}
      (view : record { devices = d; memory = memory_of stage jobs dirty copies first } ≡ u) (at_stage : is_serving u.memory ≡ true) (firsts : List (Option ℕ))
      (found : (p : ℕ) → p < size u.devices → get_or firsts p None ≡ first_lacked p (number_at (get_or u.devices.pages.pages p []) 0) (log_read m u.devices (working u.memory))) where
    now : u ≡ record { devices = d; memory = serving (working_of copies jobs first) }
    now = opened d stage jobs dirty copies first view refl Serving at_stage

    slots_are : slots_of m (next_slot d) (take (size d) firsts) jobs ≡ checkpoint_slots m d (working_of copies jobs first)
    slots_are = ap (λ es. Checkpoint Begin ∷ (es ++ (job_entries m jobs ++ Checkpoint (Complete (next_slot d)) ∷ [])))
        (entries_are (known m (size d) first (slots d)) 0 d.pages.pages firsts
        (λ i lt. let k : 0 + i ≡ i = omega arith in rw k (subst (λ u. (p : ℕ) → p < size u.devices
        → get_or firsts p None ≡ first_lacked p (number_at (get_or u.devices.pages.pages p []) 0) (log_read m u.devices (working u.memory))) now found i lt)))

    pub slots_many : (n k : ℕ) → n ≡ count_by is_some (take (size d) firsts) → k ≡ length jobs → 2 + n + k ≡ length (checkpoint_slots m d (working_of copies jobs first))
    slots_many n k e q = rw (e, q) (how_many (next_slot d) (take (size d) firsts) jobs ∙ ap length slots_are)

    pub asked_so : (n k : ℕ) (b : Bool) (r : Result (Unit {0}) Refusal) → n ≡ count_by is_some (take (size d) firsts) → k ≡ length jobs
        → b ≡ has_room m u.devices (working u.memory) (2 + n + k) → r ≡ (if b then Ok tt else Err LogFull) → r ≡ asked (checkpoint_in m u.devices (working u.memory))
    asked_so n k b r e q = subst (λ u. b ≡ has_room m u.devices (working u.memory) (2 + n + k) → r ≡ (if b then Ok tt else Err LogFull) → r ≡ asked (checkpoint_in m u.devices (working u.memory)))
        (sym now) (asks_so d (working_of copies jobs first) (2 + n + k) b r (slots_many n k e q))

    pub as_planned : (n : ℕ) (listed : Jobs) {r : Result (Unit {0}) Refusal} {w : World} → n ≡ size d → listed ≡ jobs
        → Performed m (Ok tt) out (map append (slots_of m (next_slot d) (take n firsts) listed) ++ force ∷ []) d r w
        → Performed m (Ok tt) out (map append (checkpoint_slots m d (working_of copies jobs first)) ++ force ∷ []) d r w
    as_planned n listed {r = r} {w = w} e q = subst (λ ss. Performed m (Ok tt) out (map append ss ++ force ∷ []) d r w)
        (ap (λ n. slots_of m (next_slot d) (take n firsts) listed) e ∙ (ap (slots_of m (next_slot d) (take (size d) firsts)) q ∙ slots_are))
