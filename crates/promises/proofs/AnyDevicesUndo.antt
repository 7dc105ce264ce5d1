-- Undo over any devices: where it is accepted it leaves no open job, and whatever it appends reads back.
use Rattle.std.proofs.Common.{◌≡◌, ℕ, zero, suc, ◌+◌, ◌<◌, ◌≤◌, Bool, true, false, cond, eqb, leb, List, [], ◌∷◌, length, is_some, Some, None, Option, sym, refl, ap, ◌∙◌, subst, arith}
use Rattle.std.proofs.lemmas.Bool.{ltb-true, false≢true}
use Rattle.format.specs.declared.slot.PageRecord.{PageRecord}
use Rattle.format.specs.Changes.{Meaning, Lawful}
use Rattle.recovery_log.specs.Log.{Log}
use Rattle.rules.specs.declared.refusal.Refusal.{Refusal}
use Rattle.rules.specs.declared.refusal.Refusal.TheVariants.{LogFull}
use Rattle.rules.specs.declared.table.JobEntry.{JobEntry}
use Rattle.promises.specs.AnyDevices.{OperationsFit}
use Rattle.rules.specs.Plans.{Op, force}
use Rattle.rules.specs.Reading.{at}
use Rattle.rules.specs.Restart.{Undoing, Undone, latest_of, latest, whole, goes_on, gives_up, has_slot, ended, then_undo, end_job, end_idle, compensated, undo_change, undo_latest, undo_all, undone, undone_plan, undo_in, undo_plan}
use Rattle.rules.specs.Service.{change_of, appends}
use Rattle.rules.specs.State.{Devices, Working, Memory, out, analysed, redone, serving, size, slots, log_length}
use Rattle.rules.specs.Tables.{Jobs}
use Rattle.promises.proofs.AnyDevicesBack.{Changed, change_found, onto, pushed_appends, appends_fit, Underway, back_on, end_on}
use Rattle.promises.proofs.AnyDevicesScans.{named_next, named_without}
use Rattle.promises.proofs.AnyDevicesPlans.{Base, After}
use Rattle.promises.proofs.AnyDevicesRedo.{Passes}
use Rattle.promises.proofs.AnyDevicesSlots.{known_fits}
use Rattle.promises.proofs.AnyDevicesStages.{All, Named, Redone, Serving, Fine, whole_after, ready_after, sizes_parts}
use Rattle.promises.proofs.Decoded.{whole_length}

-- The job with the largest next is one of the table

latest_all : (P : JobEntry → Type 0) (t : Jobs) (e : JobEntry) → All P t → latest t ≡ Some e → P e
latest_all P [] e h q = let z : ◌≡◌ {A = ℕ} 0 1 = cc in absurd (omega arith)
latest_all P (x ∷ xs) e h q = let same : latest_of x (latest xs) ≡ e = cc in subst P same (go (latest xs) refl (λ y p. latest_all P xs y h.1 p))
  where
    go : (o : Option JobEntry) → latest xs ≡ o → ((y : JobEntry) → latest xs ≡ Some y → P y) → P (latest_of x o)
    go None p ih = h.0
    go (Some y) p ih = pick (leb y.next x.next)
      where
        pick : (b : Bool) → P (cond b x y)
        pick true = h.0
        pick false = ih y p

latest_none : (t : Jobs) → latest t ≡ None → t ≡ []
latest_none [] q = refl
latest_none (x ∷ xs) q = let z : ◌≡◌ {A = ℕ} 0 1 = cc in absurd (omega arith)

module _ {C : Type 0} (m : Meaning C) (law : Lawful m) (size capacity : ℕ) (few : capacity ≤ 4096) (first : ℕ) (L : Log C) where
  record Under (u : Undoing C) : Type 0 where
    work : Underway m size capacity law first L u.work
    jobs : All (Named (length L)) u.jobs
    room : length u.work.log ≤ capacity

  -- while it goes on each turn appends a slot
  record Goes_on (least : ℕ) (r : Undone C) : Type 0 where
    under : Under r.state
    more : r.why ≡ None → least ≤ length r.state.work.log

  record Done (r : Undone C) : Type 0 where
    under : Under r.state
    empty : r.why ≡ None → r.state.jobs ≡ []

  given_up : (why : Refusal) → ◌≡◌ {A = Option Refusal} (Some why) None → ⊥
  given_up why e = let z : ◌≡◌ {A = ℕ} 0 1 = cc in absurd (omega arith)

  end_goes : (j : ℕ) (u : Undoing C) → 1 ≤ j → j ≤ length L → Under u → Goes_on (length u.work.log) (end_job m capacity j u)
  end_goes j u one le h = go (has_slot m capacity u) refl
    where
      go : (b : Bool) → has_slot m capacity u ≡ b → Goes_on (length u.work.log) (cond b (goes_on m (ended m j u)) (gives_up m LogFull u))
      go true e =
          let lt = ltb-true (length u.work.log) capacity e in
          record {
            under = record { work = end_on m size capacity law few first L u.work h.work lt j one le; jobs = named_without (length L) j u.jobs h.jobs; room = omega arith };
            more = λ e. omega arith;
          }
      go false e = record { under = h; more = λ q. absurd (given_up _ q) }

  then_goes : (least : ℕ) (f : Undoing C → Undone C) (r : Undone C) → Goes_on least r → ((u : Undoing C) → Under u → least ≤ length u.work.log → Goes_on least (f u))
      → Goes_on least (then_undo m f r)
  then_goes least f r g step = go r.why refl
    where
      go : (w : Option Refusal) → r.why ≡ w → Goes_on least (cond (is_some w) r (f r.state))
      go None e = step r.state g.under (g.more e)
      go (Some y) e = g

  idle_goes : (least : ℕ) (xs : Jobs) (r : Undone C) → All (Named (length L)) xs → Goes_on least r → Goes_on least (end_idle m capacity xs r)
  idle_goes least [] r h g = g
  idle_goes least (x ∷ xs) r h g = idle_goes least xs _ h.1 (go (eqb x.next 0))
    where
      go : (b : Bool) → Goes_on least (cond b (then_undo m (end_job m capacity x.job) r) r)
      go true = then_goes least (end_job m capacity x.job) r g
          (λ u k le. let e = end_goes x.job u h.0.0 h.0.1 k in record { under = e.under; more = λ q. let z = e.more q in omega arith })
      go false = g

  -- One turn

  change_goes : (e : JobEntry) (u : Undoing C) (x : Option (PageRecord C)) → change_of e.job (at u.work.log e.next) ≡ x → length u.work.log < capacity
      → Named (length L) e → Under u → Goes_on (suc (length u.work.log)) (undo_change m capacity e u x)
  change_goes e u None q lt n h = record { under = h; more = λ z. absurd (given_up _ z) }
  change_goes e u (Some r) q lt n h = go (eqb r.link 0)
    where
      stands : Changed e.job (at u.work.log e.next) r
      stands = change_found e.job (at u.work.log e.next) r q

      after : Under (compensated m e r u)
      after = record {
        work = back_on m size capacity law few first L u.work h.work lt e.next r stands.is;
        jobs = named_next (length L) e.job r.link u.jobs h.jobs;
        room = omega arith;
      }

      go : (b : Bool) → Goes_on (suc (length u.work.log)) (cond b (end_job m capacity e.job (compensated m e r u)) (goes_on m (compensated m e r u)))
      go true = end_goes e.job (compensated m e r u) n.0 n.1 after
      go false = record { under = after; more = λ z. omega arith }

  then_done : (least : ℕ) (f : Undoing C → Undone C) (r : Undone C) → Goes_on least r → ((u : Undoing C) → Under u → least ≤ length u.work.log → Done (f u))
      → Done (then_undo m f r)
  then_done least f r g step = go r.why refl
    where
      go : (w : Option Refusal) → r.why ≡ w → Done (cond (is_some w) r (f r.state))
      go None e = step r.state g.under (g.more e)
      go (Some y) e = record { under = g.under; empty = λ z. absurd (given_up y (sym e ∙ z)) }

  -- every turn but the last appends a slot, so the turns do not run out
  all_done : (fuel : ℕ) (u : Undoing C) → suc capacity ≤ fuel + length u.work.log → Under u → Done (undo_all m capacity fuel u)
  all_done zero u enough h = absurd (omega (arith, h.room))
  all_done (suc fuel) u enough h = by_latest (latest u.jobs) refl (λ v most k. all_done fuel v most k)
    where
      by_latest : (o : Option JobEntry) → latest u.jobs ≡ o → ((v : Undoing C) → suc capacity ≤ fuel + length v.work.log → Under v → Done (undo_all m capacity fuel v))
          → Done (undo_latest m capacity (undo_all m capacity fuel) u o)
      by_latest None q rest = record { under = h; empty = λ z. latest_none u.jobs q }
      by_latest (Some e) q rest = go (has_slot m capacity u) refl
        where
          go : (b : Bool) → has_slot m capacity u ≡ b
              → Done (cond b (then_undo m (undo_all m capacity fuel) (undo_change m capacity e u (change_of e.job (at u.work.log e.next)))) (gives_up m LogFull u))
          go true p = then_done (suc (length u.work.log)) (undo_all m capacity fuel) _
              (change_goes e u _ refl (ltb-true (length u.work.log) capacity p) (latest_all (Named (length L)) u.jobs e h.jobs q) h)
              (λ v k most. rest v (omega arith) k)
          go false p = record { under = h; empty = λ z. absurd (given_up _ z) }

-- The plan of undo

module _ {C : Type 0} (m : Meaning C) (law : Lawful m) (d : Devices) (base : Base d) (x : Working) (h : Redone m d x) where
  few : d.log.capacity ≤ 4096
  few = (sizes_parts d h.ready.sizes).3

  abbrev at_first : Undoing C
  at_first = record { work = record { log = whole m d; copies = x.copies; appended = [] }; jobs = x.jobs; compensations = 0; ends = 0 }

  begins : Under m law (size d) d.log.capacity few x.first (whole m d) at_first
  begins = let n = whole_length m d in record {
    work = record {
      grown = refl;
      longer = omega arith;
      lands = tt;
      low = h.low;
      sound = known_fits m law (size d) 1 (slots d);
      copies = rw n h.copies;
    };
    jobs = rw n h.jobs;
    room = omega (arith, base.room);
  }

  undone_done : Done m law (size d) d.log.capacity few x.first (whole m d) (undone m d x)
  undone_done =
      let n = whole_length m d in
      let goes = idle_goes m law (size d) d.log.capacity few x.first (whole m d) 0 x.jobs (goes_on m at_first) (rw n h.jobs) (record { under = begins; more = λ e. omega arith }) in
      then_done m law (size d) d.log.capacity few x.first (whole m d) 0 (undo_all m d.log.capacity (suc d.log.capacity)) _ goes
      (λ u k le. all_done m law (size d) d.log.capacity few x.first (whole m d) (suc d.log.capacity) u (omega arith) k)

  served : (e : Devices) (u : Undone C) → Done m law (size d) d.log.capacity few x.first (whole m d) u → u.why ≡ None
      → After m (appends u.state.work.appended (force ∷ [])) d e
      → Serving m e (record { copies = u.state.work.copies; jobs = u.state.jobs; first = x.first })
  served e u g q a =
      let k = u.state.work in
      let log_is : whole m e ≡ k.log = whole_after m a ∙ (pushed_appends k.appended (force ∷ []) (whole m d) ∙ sym g.under.work.grown) in
      let long : log_length e ≡ length k.log = sym (whole_length m e) ∙ ap length log_is in
      let none = g.empty q in
      let room = g.under.room in
      let same = a.capacity_same in
      record {
        ready = ready_after m a x.first h.ready;
        low = rw log_is g.under.work.low;
        copies = rw long g.under.work.copies;
        table = record { ascending = rw none tt; each = λ j y f. let z : ◌≡◌ {A = Option JobEntry} None (Some y) = rw none at f in let w : ◌≡◌ {A = ℕ} 0 1 = cc in absurd (omega arith) };
        room = rw none (omega arith);
      }

  undone_safe : Passes m (record { devices = d; memory = redone x }) (undo_in m d x)
  undone_safe = go (undone m d x).why refl
    where
      g : Done m law (size d) d.log.capacity few x.first (whole m d) (undone m d x)
      g = undone_done

      fits : (ops : List (Op C)) → OperationsFit m (size d) d.log.capacity (length (onto (undone m d x).state.work.appended (whole m d))) ops
          → OperationsFit m (size d) d.log.capacity (log_length d) (appends (undone m d x).state.work.appended ops)
      fits ops k = subst (λ n. OperationsFit m (size d) d.log.capacity n (appends (undone m d x).state.work.appended ops)) (whole_length m d)
          (appends_fit m (size d) d.log.capacity (whole m d) (undone m d x).state.work.appended ops g.under.work.lands k)

      go : (why : Option Refusal) → (undone m d x).why ≡ why → Passes m (record { devices = d; memory = redone x }) (undone_plan m x (undone m d x).state why)
      go None q = record { power = h.ready.power; fit = fits (force ∷ []) tt; stage = λ e a. served e (undone m d x) g q a; mild = λ why z. tt }
      go (Some why) q = record { power = h.ready.power; fit = fits [] tt; stage = λ e a. tt; mild = λ why z. tt }

pub undo_safe : {C : Type 0} (m : Meaning C) → Lawful m → (d : Devices) (memory : Memory) → Base d → Fine m d memory
    → Passes m (record { devices = d; memory = memory }) (undo_plan m (record { devices = d; memory = memory }))
undo_safe m law d out b h = (λ no. tt, λ e. absurd (false≢true e))
undo_safe m law d (analysed f) b h = (λ no. tt, λ e. absurd (false≢true e))
undo_safe m law d (redone s) b h = (λ no. tt, λ e. (λ no. tt, λ p. (λ no. tt, λ q. undone_safe m law d b s h)))
undo_safe m law d (serving s) b h = (λ no. tt, λ e. absurd (false≢true e))
