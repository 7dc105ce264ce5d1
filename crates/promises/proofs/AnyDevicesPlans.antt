-- What comes of a plan over any devices: of operations that find power, room and slots that read back, and of the questions before them.
use Rattle.std.proofs.Common.{◌≡◌, ℕ, suc, ◌<◌, ◌≤◌, true, false, List, [], ◌∷◌, ◌++◌, length, Some, None, Ok, Err, Option, Result, sym, refl, ap, ◌∙◌, subst, inl, inr, arith, length-append, length-set}
use Rattle.std.specs.Result.{result_ok}
use Rattle.std.proofs.lemmas.Bool.{both_ways, le-ltb, cond-false}
use Rattle.std.proofs.lemmas.List.{length-take-le}
use Rattle.format.specs.declared.slot.Slot.{Slot}
use Rattle.format.specs.Changes.{Meaning}
use Rattle.format.specs.Slots.{slot_bytes, read_slot}
use Rattle.format.specs.Pages.{page_bytes}
use Rattle.device.specs.declared.page_store.PageFault.{PageFault}
use Rattle.device.specs.declared.log_store.LogFault.{LogFault}
use Rattle.device.specs.PageStores.{PageModel, PageWritten}
use Rattle.device.specs.LogStores.{LogModel, SlotAppended, LogForced}
use Rattle.recovery_log.specs.Log.{Log}
use Rattle.rules.specs.declared.refusal.Refusal.{Refusal}
use Rattle.promises.specs.AnyDevices.{OperationsFit, PlanFits, AltersNothing}
use Rattle.rules.specs.Numbers.{number_of}
use Rattle.rules.specs.Plans.{Op, append, force, write, Plan, asks, insists, powers_on, performs, refusal_of_page, refusal_of_log, with_pages, with_log, powered_on, Did, Failed, Performed, done, next, Does, refused, granted, stopped, passed, began, performed}
use Rattle.rules.specs.Reading.{known}
use Rattle.rules.specs.State.{Devices, Memory, out, World, size, slots, log_length}
use Rattle.promises.proofs.Decoded.{known_append, known_length}

pub record Powered (d : Devices) : Type 0 where
  pub pages : d.pages.powered ≡ true
  pub log : d.log.powered ≡ true

-- what holds of the log at all times
pub record Base (d : Devices) : Type 0 where
  pub held : d.log.forced ≤ log_length d
  pub room : log_length d ≤ d.log.capacity

-- the log after operations
abbrev pub pushed : {C : Type 0} → List (Op C) → Log C → Log C
pushed [] L = L
pushed (append s ∷ ops) L = pushed ops (Some s ∷ L)
pushed (force ∷ ops) L = pushed ops L
pushed (write p page ∷ ops) L = pushed ops L

same_fault : {A E : Type 0} (f g : E) → ◌≡◌ {A = Result A E} (Err f) (Err g) → f ≡ g
same_fault f g e = cc

module _ {C : Type 0} (m : Meaning C) where
  pub record After (ops : List (Op C)) (d e : Devices) : Type 0 where
    pub power : Powered e
    pub base : Base e
    pub capacity_same : e.log.capacity ≡ d.log.capacity
    pub size_same : size e ≡ size d
    pub longer : log_length d ≤ log_length e
    pub grown : (first : ℕ) → first ≤ suc (log_length d) → known m (size e) first (slots e) ≡ pushed ops (known m (size d) first (slots d))

  -- Operations that are done

  module _ (d : Devices) (power : Powered d) (base : Base d) where
    slot_grown : (s : Slot C) (first : ℕ) → read_slot m (size d) (suc (log_length d)) (slot_bytes m s) ≡ Ok s → first ≤ suc (log_length d)
        → known m (size d) first (slots d ++ slot_bytes m s ∷ []) ≡ Some s ∷ known m (size d) first (slots d)
    slot_grown s first reads le =
        known_append m (size d) first (slots d) (slot_bytes m s)
        ∙ ap (λ (x : Option (Slot C)). x ∷ known m (size d) first (slots d))
        (cond-false _ None (result_ok (read_slot m (size d) (suc (log_length d)) (slot_bytes m s))) (le-ltb (suc (log_length d)) first le) ∙ ap result_ok reads)

    append_after : (s : Slot C) (l : LogModel) → read_slot m (size d) (suc (log_length d)) (slot_bytes m s) ≡ Ok s
        → SlotAppended d.log (slot_bytes m s) (Ok tt) l → After (append s ∷ []) d (with_log d l)
    append_after s l reads (SlotAppended.no_power e q a) = let z : ◌≡◌ {A = ℕ} 0 1 = cc in absurd (omega arith)
    append_after s l reads (SlotAppended.full e c q a) = let z : ◌≡◌ {A = ℕ} 0 1 = cc in absurd (omega arith)
    append_after s l reads (SlotAppended.done e c f lo hi q a) = subst (λ k. After (append s ∷ []) d (with_log d k)) (sym a) (record {
      power = record { pages = power.pages; log = refl };
      base = record { held = rw length-append (omega arith); room = rw length-append (omega arith) };
      capacity_same = refl;
      size_same = refl;
      longer = rw length-append (omega arith);
      grown = λ first le. slot_grown s first reads le;
    })
    append_after s l reads (SlotAppended.lost_before e c f lo hi q a) = let z : ◌≡◌ {A = ℕ} 0 1 = cc in absurd (omega arith)
    append_after s l reads (SlotAppended.lost_after e c f lo hi q a) = let z : ◌≡◌ {A = ℕ} 0 1 = cc in absurd (omega arith)

    force_after : (l : LogModel) → LogForced d.log (Ok tt) l → After (force ∷ []) d (with_log d l)
    force_after l (LogForced.no_power e q a) = let z : ◌≡◌ {A = ℕ} 0 1 = cc in absurd (omega arith)
    force_after l (LogForced.done e q a) = subst (λ k. After (force ∷ []) d (with_log d k)) (sym a) (record {
      power = record { pages = power.pages; log = refl };
      base = record { held = omega arith; room = base.room };
      capacity_same = refl;
      size_same = refl;
      longer = omega arith;
      grown = λ first le. refl;
    })
    force_after l (LogForced.lost e f lo hi q a) = let z : ◌≡◌ {A = ℕ} 0 1 = cc in absurd (omega arith)

    write_after : (p : ℕ) (b : List ℕ) (o : Op C) (l : PageModel) → ((L : Log C) → pushed (o ∷ []) L ≡ L) → PageWritten d.pages p b (Ok tt) l
        → After (o ∷ []) d (with_pages d l)
    write_after p b o l same (PageWritten.no_power e q a) = let z : ◌≡◌ {A = ℕ} 0 1 = cc in absurd (omega arith)
    write_after p b o l same (PageWritten.outside e c q a) = let z : ◌≡◌ {A = ℕ} 0 1 = cc in absurd (omega arith)
    write_after p b o l same (PageWritten.done e c q a) =
        let long : length l.pages ≡ size d = ap (λ (k : PageModel). length k.pages) a ∙ length-set d.pages.pages p b in
        record {
          power = record { pages = ap (λ (k : PageModel). k.powered) a ∙ power.pages; log = power.log };
          base = record { held = base.held; room = base.room };
          capacity_same = refl;
          size_same = long;
          longer = omega arith;
          grown = λ first le. ap (λ n. known m n first (slots d)) long ∙ sym (same (known m (size d) first (slots d)));
        }
    write_after p b o l same (PageWritten.lost_old e c q a) = let z : ◌≡◌ {A = ℕ} 0 1 = cc in absurd (omega arith)
    write_after p b o l same (PageWritten.lost_new e c q a) = let z : ◌≡◌ {A = ℕ} 0 1 = cc in absurd (omega arith)

    -- Operations that fail

    append_cut : (s : Slot C) (f : LogFault) (l : LogModel) → log_length d < d.log.capacity → SlotAppended d.log (slot_bytes m s) (Err f) l
        → (number_of (refusal_of_log f) ≡ 17) × Base (with_log d l)
    append_cut s f l room (SlotAppended.no_power e q a) = absurd (both_ways d.log.powered e power.log)
    append_cut s f l room (SlotAppended.full e c q a) = absurd (omega arith)
    append_cut s f l room (SlotAppended.done e c g lo hi q a) = let z : ◌≡◌ {A = ℕ} 0 1 = cc in absurd (omega arith)
    append_cut s f l room (SlotAppended.lost_before e c g lo hi q a) =
        let same = same_fault f _ q in
        (ap (λ (k : LogFault). number_of (refusal_of_log k)) same, subst (λ k. Base (with_log d k)) (sym a) (record { held = hi; room = base.room }))
    append_cut s f l room (SlotAppended.lost_after e c g lo hi q a) =
        let same = same_fault f _ q in (
          ap (λ (k : LogFault). number_of (refusal_of_log k)) same,
          subst (λ k. Base (with_log d k)) (sym a)
              (record { held = rw length-append (omega arith); room = rw length-append (omega arith) }),
        )

    force_cut : (f : LogFault) (l : LogModel) → LogForced d.log (Err f) l → (number_of (refusal_of_log f) ≡ 17) × Base (with_log d l)
    force_cut f l (LogForced.no_power e q a) = absurd (both_ways d.log.powered e power.log)
    force_cut f l (LogForced.done e q a) = let z : ◌≡◌ {A = ℕ} 0 1 = cc in absurd (omega arith)
    force_cut f l (LogForced.lost e g lo hi q a) =
        let same = same_fault f _ q in
        (ap (λ (k : LogFault). number_of (refusal_of_log k)) same, subst (λ k. Base (with_log d k)) (sym a) (record { held = hi; room = base.room }))

    write_cut : (p : ℕ) (b : List ℕ) (f : PageFault) (l : PageModel) → p < size d → PageWritten d.pages p b (Err f) l
        → number_of (refusal_of_page f) ≡ 17
    write_cut p b f l lt (PageWritten.no_power e q a) = absurd (both_ways d.pages.powered e power.pages)
    write_cut p b f l lt (PageWritten.outside e c q a) = absurd (omega arith)
    write_cut p b f l lt (PageWritten.done e c q a) = let z : ◌≡◌ {A = ℕ} 0 1 = cc in absurd (omega arith)
    write_cut p b f l lt (PageWritten.lost_old e c q a) = let same = same_fault f _ q in ap (λ (k : PageFault). number_of (refusal_of_page k)) same
    write_cut p b f l lt (PageWritten.lost_new e c q a) = let same = same_fault f _ q in ap (λ (k : PageFault). number_of (refusal_of_page k)) same

  -- One operation, then the others

  after_then : {ops : List (Op C)} {d e f : Devices} (o : Op C) → After (o ∷ []) d e → After ops e f → After (o ∷ ops) d f
  after_then {ops = ops} {d = d} {e = e} {f = f} o x y = record {
    power = y.power;
    base = record { held = y.base.held; room = y.base.room };
    capacity_same = y.capacity_same ∙ x.capacity_same;
    size_same = y.size_same ∙ x.size_same;
    longer = let a = x.longer in let b = y.longer in omega arith;
    grown = λ first le. let a = x.longer in y.grown first (omega arith) ∙ (ap (pushed ops) (x.grown first le) ∙ one_by_one o (known m (size d) first (slots d)));
  }
    where
      one_by_one : (o : Op C) (L : Log C) → pushed ops (pushed (o ∷ []) L) ≡ pushed (o ∷ ops) L
      one_by_one (append s) L = refl
      one_by_one force L = refl
      one_by_one (write p page) L = refl

  record Step (o : Op C) (ops : List (Op C)) (d e : Devices) : Type 0 where
    after : After (o ∷ []) d e
    rest : OperationsFit m (size e) e.log.capacity (log_length e) ops

  -- what still fits after an operation
  fit_later : {o : Op C} {d e : Devices} (ops : List (Op C)) (n : ℕ) → After (o ∷ []) d e → log_length e ≡ n → OperationsFit m (size d) d.log.capacity n ops
      → OperationsFit m (size e) e.log.capacity (log_length e) ops
  fit_later {d = d} {e = e} ops n x long h = rw (x.size_same, x.capacity_same, long) h

  step : {o : Op C} {d e : Devices} (ops : List (Op C)) → Powered d → Base d → Did m o d e → OperationsFit m (size d) d.log.capacity (log_length d) (o ∷ ops)
      → Step o ops d e
  step {d = d} ops p b (Did.appended {s = s} {l = l} x) h =
      let a = append_after d p b s l h.1 x in
      let long : length l.slots ≡ suc (log_length d) =
      sym (known_length m (size d) 1 l.slots) ∙ (ap length (a.grown 1 (omega arith)) ∙ ap suc (known_length m (size d) 1 (slots d))) in
      record { after = a; rest = fit_later ops (suc (log_length d)) a long h.2 }
  step {d = d} ops p b (Did.forced {l = l} x) h =
      let a = force_after d p b l x in
      let long : length l.slots ≡ log_length d =
      sym (known_length m (size d) 1 l.slots) ∙ (ap length (a.grown 1 (omega arith)) ∙ known_length m (size d) 1 (slots d)) in
      record { after = a; rest = fit_later ops (log_length d) a long h }
  step {d = d} ops p b (Did.wrote {p = q} {page = page} {s = l} x) h =
      let a = write_after d p b q (page_bytes page) (write q page) l (λ L. refl) x in
      record { after = a; rest = fit_later ops (log_length d) a refl h.1 }

  cut_off : {o : Op C} {d e : Devices} {why : Refusal} (ops : List (Op C)) → Powered d → Base d → Failed m o d why e
      → OperationsFit m (size d) d.log.capacity (log_length d) (o ∷ ops) → (number_of why ≡ 17) × Base e
  cut_off {d = d} ops p b (Failed.append_failed {s = s} {f = f} {l = l} x) h = append_cut d p b s f l h.0 x
  cut_off {d = d} ops p b (Failed.force_failed {f = f} {l = l} x) h = force_cut d p b f l x
  cut_off {d = d} ops p b (Failed.write_failed {p = q} {page = page} {f = f} {s = l} x) h =
      (write_cut d p b q (page_bytes page) f l h.0 x, record { held = b.held; room = b.room })

  -- all operations are done, or power is lost in one
  data Came {A : Type 0} (answer : Result A Refusal) (after : Memory) (ops : List (Op C)) (d : Devices) (r : Result A Refusal) (v : World) : Type 0 where
    finished : r ≡ answer → v.memory ≡ after → After ops d v.devices → Came answer after ops d r v
    cut : (why : Refusal) → r ≡ Err why → number_of why ≡ 17 → v.memory ≡ out → Base v.devices → Came answer after ops d r v

  ran : {A : Type 0} {answer : Result A Refusal} {after : Memory} {ops : List (Op C)} {d : Devices} {r : Result A Refusal} {v : World} → Powered d → Base d
      → Performed m answer after ops d r v → OperationsFit m (size d) d.log.capacity (log_length d) ops → Came answer after ops d r v
  ran p b done h = finished refl refl (record {
    power = p;
    base = b;
    capacity_same = refl;
    size_same = refl;
    longer = omega arith;
    grown = λ first le. refl;
  })
  ran {answer = answer} {after = after} {d = d} {r = r} {v = v} p b (next {op = o} {ops = ops} {e = e} x rest) h = go (step ops p b x h) (λ y. ran y.after.power y.after.base rest y.rest)
    where
      later : After (o ∷ []) d e → Came answer after ops e r v → Came answer after (o ∷ ops) d r v
      later a (finished same mem y) = finished same mem (after_then o a y)
      later a (cut why same n mem y) = cut why same n mem y

      go : Step o ops d e → (Step o ops d e → Came answer after ops e r v) → Came answer after (o ∷ ops) d r v
      go s f = later s.after (f s)
  ran p b (Performed.failed {ops = ops} {f = f} x) h = let y = cut_off ops p b x h in cut f refl y.0 refl y.1

  -- Plans. What is to hold of a stage, what refusals of a question are to be, and what is said of a call that may do otherwise than refuse by a question
  module _ (Stage : Devices → Memory → Type 0) (calm : Refusal → Type 0) (loud : Type 0) where
    pub record Runs {A : Type 0} (d : Devices) (ops : List (Op C)) (answer : Result A Refusal) (after : Memory) : Type 0 where
      pub power : Powered d
      pub fit : OperationsFit m (size d) d.log.capacity (log_length d) ops
      pub stage : (e : Devices) → After ops d e → Stage e after
      pub mild : (why : Refusal) → answer ≡ Err why → loud

    abbrev pub Safe : {A : Type 0} → World → Plan C A → Type 0
    Safe w (asks b why p) = (b ≡ false → calm why) × (b ≡ true → Safe w p)
    Safe w (insists b why p) = (b ≡ false → loud) × (b ≡ true → Safe w p)
    Safe w (powers_on f) = loud × ((d : Devices) → d ≡ powered_on w.devices → Safe (record { devices = d; memory = out }) (f d))
    Safe w (performs ops answer after) = Runs w.devices ops answer after

    pub safe_fits : {A : Type 0} (w : World) (p : Plan C A) → Safe w p → PlanFits m w.devices p
    safe_fits w (asks b why p) h = λ e. safe_fits w p (h.1 e)
    safe_fits w (insists b why p) h = λ e. safe_fits w p (h.1 e)
    safe_fits w (powers_on f) h = let d = powered_on w.devices in safe_fits (record { devices = d; memory = out }) (f d) (h.1 d refl)
    safe_fits w (performs ops answer after) h = h.fit

    pub base_powered_on : (d : Devices) → Base d → Base (powered_on d)
    base_powered_on d b = let h = b.held in let r = b.room in
        let long = length-take-le d.log.forced d.log.slots h in
        record { held = rw long (omega arith); room = rw long (omega arith) }

    module _ (nothing : (d : Devices) → Stage d out) where
      came_held : {A : Type 0} {ops : List (Op C)} {answer : Result A Refusal} {after : Memory} {r : Result A Refusal} (d : Devices) (v : World)
          → Runs d ops answer after → Came answer after ops d r v → Base v.devices × Stage v.devices v.memory
      came_held d v h (finished e mem a) = (a.base, subst (Stage v.devices) (sym mem) (h.stage v.devices a))
      came_held d v h (cut why e n mem b) = (b, subst (Stage v.devices) (sym mem) (nothing v.devices))

      pub kept : {A : Type 0} {p : Plan C A} {w v : World} {r : Result A Refusal} → Base w.devices → Stage w.devices w.memory → Safe w p → Does m p w r v
          → Base v.devices × Stage v.devices v.memory
      kept b s h (refused e) = (b, s)
      kept b s h (granted e x) = kept b s (h.1 e) x
      kept b s h (stopped {w = w} e) = (b, nothing w.devices)
      kept b s h (passed e x) = kept b s (h.1 e) x
      kept {w = w} b s h (began d e x) = kept (subst Base (sym e) (base_powered_on w.devices b)) (nothing d) (h.1 d e) x
      kept {w = w} {v = v} b s h (performed x) = came_held w.devices v h (ran h.power b x h.fit)

    module _ (never : loud → ⊥) (calmly : (why : Refusal) → calm why → number_of why ≡ 15 → ⊥) where
      asked : {A : Type 0} (w : World) (why because : Refusal) → calm why → ◌≡◌ {A = Result A Refusal} (Err why) (Err because) → AltersNothing m w w because
      asked w why because c e = let same = same_fault why because e in record { nothing_done = inr refl; readable = calmly because (subst calm same c) }

      came_quiet : {A : Type 0} {ops : List (Op C)} {answer : Result A Refusal} {after : Memory} {r : Result A Refusal} (w v : World) (because : Refusal)
          → Runs w.devices ops answer after → Came answer after ops w.devices r v → r ≡ Err because → AltersNothing m w v because
      came_quiet w v because h (finished e mem a) q = absurd (never (h.mild because (sym e ∙ q)))
      came_quiet w v because h (cut why e n mem b) q =
          let same = same_fault why because (sym e ∙ q) in
          let k : number_of because ≡ 17 = ap number_of (sym same) ∙ n in
          record { nothing_done = inl k; readable = λ z. omega arith }

      pub told : {A : Type 0} {p : Plan C A} {w v : World} {r : Result A Refusal} (because : Refusal) → Base w.devices → Safe w p → Does m p w r v
          → r ≡ Err because → AltersNothing m w v because
      told because b h (refused {why = why} {w = w} e) q = asked w why because (h.0 e) q
      told because b h (granted e x) q = told because b (h.1 e) x q
      told because b h (stopped e) q = absurd (never (h.0 e))
      told because b h (passed e x) q = told because b (h.1 e) x q
      told because b h (began d e x) q = absurd (never h.0)
      told {w = w} {v = v} because b h (performed x) q = came_quiet w v because h (ran h.power b x h.fit) q
