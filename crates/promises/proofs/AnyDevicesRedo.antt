-- Redo over any devices: where it is accepted every slot that it reads fits, and LRCs stay low. And the plans of analysis and redo.
use Rattle.std.proofs.Common.{◌≡◌, ℕ, zero, suc, ◌+◌, ◌≤◌, min, Bool, true, false, cond, ◌&&◌, eqb, ltb, leb, List, [], ◌∷◌, length, set, Some, None, Ok, Err, Option, Result, sym, refl, ◌∙◌, subst, ⊎_elim, arith}
use Rattle.std.proofs.lemmas.Bool.{cond_both, cases_lt, leb-true, eqb-true, eqb-false, and_parts, false≢true}
use Rattle.format.specs.declared.page.Page.{Page}
use Rattle.format.specs.declared.slot.Slot.{Slot}
use Rattle.format.specs.declared.slot.Slot.TheVariants.{Record, Job, Checkpoint}
use Rattle.format.specs.declared.slot.PageRecord.{PageRecord}
use Rattle.format.specs.Changes.{Meaning, Lawful}
use Rattle.recovery_log.specs.Log.{Log, new_number}
use Rattle.rules.specs.declared.refusal.Refusal.{Refusal}
use Rattle.rules.specs.Plans.{Plan, powered_on}
use Rattle.rules.specs.Playing.{acted, play}
use Rattle.rules.specs.Reading.{scan, last_end}
use Rattle.rules.specs.Restart.{found_in, analysed_plan, analysis_plan, whole, Replay, is_due, none_ahead, replay, redone_plan, replayed, stored_pages, redo_plan}
use Rattle.rules.specs.Service.{copy_of}
use Rattle.rules.specs.State.{Devices, Found, Working, Memory, out, analysed, redone, serving, World, size, slots, log_length, sizes_legal}
use Rattle.rules.specs.Tables.{Dirty, least_start}
use Rattle.promises.proofs.AnyDevicesAnalysis.{finds}
use Rattle.promises.proofs.AnyDevicesScans.{scanned, each_all, each_and, of_each, of_more, ok_cond, ok_same, clash}
use Rattle.promises.proofs.AnyDevicesPlans.{Powered, Base, After, Safe}
use Rattle.promises.proofs.AnyDevicesSlots.{Each, each_more, known_fits}
use Rattle.promises.proofs.AnyDevicesStages.{There, OfRecord, Low, Starts, Analysed, Redone, Fine, whole_after, ready_after, sizes_parts, length_after}
use Rattle.promises.proofs.Decoded.{whole_length}

-- Copies

-- what holds of every copy and of the page that is put among them
pub copy_set : (P : Page → Type 0) (cs : List Page) (i : ℕ) (x : Page) → ((p : ℕ) → P (copy_of cs p)) → P x → (p : ℕ) → P (copy_of (set cs i x) p)
copy_set P [] i x h k p = h p
copy_set P (c ∷ cs) zero x h k zero = k
copy_set P (c ∷ cs) zero x h k (suc p) = h (suc p)
copy_set P (c ∷ cs) (suc i) x h k zero = h zero
copy_set P (c ∷ cs) (suc i) x h k (suc p) = copy_set P cs i x (λ q. h (suc q)) k p

none_ahead_low : (n : ℕ) (cs : List Page) → none_ahead n cs ≡ true → (p : ℕ) → (copy_of cs p).lrc ≤ n
none_ahead_low n [] h p = omega arith
none_ahead_low n (c ∷ cs) h zero = leb-true c.lrc n (and_parts (leb c.lrc n) (none_ahead n cs) h).0
none_ahead_low n (c ∷ cs) h (suc p) = none_ahead_low n cs (and_parts (leb c.lrc n) (none_ahead n cs) h).1 p

module _ {C : Type 0} (m : Meaning C) where
  -- a copy's LRC is its own or the record's that is played on it
  pub play_low : (n : ℕ) (r : PageRecord C) (copy : Page) → r.lrc ≤ n → copy.lrc ≤ n → (play m r copy).lrc ≤ n
  play_low n r copy a b = cond_both (ltb copy.lrc r.lrc) (record { lrc = r.lrc; content = acted m r.action r.change copy.content }) copy
      (λ (c : Page). c.lrc ≤ n) (λ e. a) (λ e. b)

  -- Redo's scan

  record Replayed (from N : ℕ) (M : Log C) (s : Replay) : Type 0 where
    there : Each (There from) M
    low : Each (λ n x. OfRecord (λ r. from ≤ n → r.lrc ≤ N + n) x) M
    copies : (p : ℕ) → (copy_of s.copies p).lrc ≤ N + length M

  module _ (dirty : Dirty) (from N : ℕ) where
    replayed_more : (x : Slot C) (M : Log C) (s : Replay) → OfRecord (λ r. from ≤ new_number M → r.lrc ≤ N + new_number M) (Some x) → Replayed from N M s
        → Replayed from N (Some x ∷ M) s
    replayed_more x M s k g = record { there = (λ le. refl, g.there); low = (k, g.low); copies = λ p. let h = g.copies p in omega arith }

    replay_step : (x : Option (Slot C)) (M : Log C) (s t : Replay) → from ≤ new_number M → Unit {0} → Replayed from N M s → replay m dirty (new_number M) x s ≡ Ok t
        → Replayed from N (x ∷ M) t
    replay_step None M s t le f g e = clash _ t e
    replay_step (Some (Record r)) M s t le f g e =
        let n = new_number M in
        let copy = copy_of s.copies r.page in
        let next : Replay = record { copies = set s.copies r.page (play m r copy); count = suc s.count } in
        let p = ok_cond (leb r.lrc (suc copy.lrc)) (Ok (cond (is_due r.page n dirty && ltb copy.lrc r.lrc) next s)) _ t e in
        let small = leb-true r.lrc (suc copy.lrc) p.0 in
        let was = g.copies r.page in
        let now : r.lrc ≤ N + n = omega arith in
        let stays = replayed_more (Record r) M s (λ ge. now) g in
        let goes : Replayed from N (Some (Record r) ∷ M) next = record {
          there = stays.there;
          low = stays.low;
          copies = copy_set (λ c. c.lrc ≤ N + n) s.copies r.page (play m r copy) stays.copies (play_low (N + n) r copy now (omega arith));
        } in
        subst (Replayed from N (Some (Record r) ∷ M)) (ok_same _ t p.1) (either (is_due r.page n dirty && ltb copy.lrc r.lrc) next s (Some (Record r) ∷ M) goes stays)
      where
        either : (b : Bool) (u v : Replay) (K : Log C) → Replayed from N K u → Replayed from N K v → Replayed from N K (cond b u v)
        either true u v K a b = a
        either false u v K a b = b
    replay_step (Some (Job e j)) M s t le f g q = subst (Replayed from N (Some (Job e j) ∷ M)) (ok_same _ t q) (replayed_more (Job e j) M s tt g)
    replay_step (Some (Checkpoint c)) M s t le f g q = subst (Replayed from N (Some (Checkpoint c) ∷ M)) (ok_same _ t q) (replayed_more (Checkpoint c) M s tt g)

    replays : (s t : Replay) (L : Log C) → 1 ≤ from → ((p : ℕ) → (copy_of s.copies p).lrc ≤ N) → scan from (replay m dirty) s L ≡ Ok t → Replayed from N L t
    replays s t L one h e = scanned from (replay m dirty) s (λ n x. Unit {0}) (Replayed from N) one
        (λ M lt. record {
          there = each_all (There from) M (λ n x le ge. absurd (omega arith));
          low = each_all (λ n x. OfRecord (λ r. from ≤ n → r.lrc ≤ N + n) x) M (λ n x le. of_each (λ r. from ≤ n → r.lrc ≤ N + n) x (λ r ge. absurd (omega arith)));
          copies = λ p. let k = h p in omega arith;
        }) replay_step L t (each_all (λ n x. Unit {0}) L (λ n x le. tt)) e

  -- What redo leaves

  module _ (d : Devices) (base : Base d) (f : Found) (a : Analysed m d f) (s : Replay) (ahead : none_ahead (log_length d) (stored_pages m d) ≡ true) where
    few : log_length d ≤ 4096
    few = let k = sizes_parts d a.ready.sizes in omega (arith, base.room, k.3)

    -- no page is dirty: then analysis read no record
    none_read : least_start f.dirty ≡ 0 → Redone m d (record { copies = stored_pages m d; jobs = f.jobs; first = f.first })
    none_read zero-from = record {
      ready = a.ready;
      low = each_more (Starts f.first (least_start f.dirty)) (Low f.first) (whole m d)
          (λ n x le h. of_more (λ r. f.first ≤ n → (1 ≤ least_start f.dirty) × (least_start f.dirty ≤ n)) (λ r. f.first ≤ n → r.lrc ≤ 4096 + n) x
          (λ r k ge. let z = (k ge).0 in absurd (omega arith)) h) a.starts;
      copies = λ p. let k = none_ahead_low (log_length d) (stored_pages m d) ahead p in omega (arith, few);
      jobs = a.jobs;
    }

    all_read : 1 ≤ least_start f.dirty → Replayed (least_start f.dirty) (log_length d) (whole m d) s
        → Redone m d (record { copies = s.copies; jobs = f.jobs; first = min f.first (least_start f.dirty) })
    all_read one r =
        let least = least_start f.dirty in
        let first = f.first in
        let now = min first least in
        let small = few in
        record {
          ready = record {
            power = a.ready.power;
            sizes = a.ready.sizes;
            one = let k = a.ready.one in omega arith;
            until = let k = a.ready.until in omega arith;
            there = each_more (λ n x. There first n x × There least n x) (There now) (whole m d)
                (λ n x le h ge. ⊎_elim (λ lt. h.1 (omega arith)) (λ low. h.0 low) (cases_lt n first))
                (each_and (There first) (There least) (whole m d) a.ready.there r.there);
          };
          low = each_more (λ n x. Starts first least n x × OfRecord (λ c. least ≤ n → c.lrc ≤ log_length d + n) x) (Low now) (whole m d)
              (λ n x le h. both n x h.0 h.1)
              (each_and (Starts first least) (λ n x. OfRecord (λ c. least ≤ n → c.lrc ≤ log_length d + n) x) (whole m d) a.starts r.low);
          copies = λ p. let k = r.copies p in let n = whole_length m d in omega arith;
          jobs = a.jobs;
        }
      where
        both : (n : ℕ) (x : Option (Slot C)) → Starts f.first (least_start f.dirty) n x → OfRecord (λ c. least_start f.dirty ≤ n → c.lrc ≤ log_length d + n) x
            → Low (min f.first (least_start f.dirty)) n x
        both n None u v = tt
        both n (Some (Record c)) u v = λ ge.
            let low : least_start f.dirty ≤ n = ⊎_elim (λ lt. omega arith) (λ le. (u le).1) (cases_lt n f.first) in
            let k = v low in omega (arith, few)
        both n (Some (Job e j)) u v = tt
        both n (Some (Checkpoint c)) u v = tt

    redone_fine : replayed m d f.dirty (stored_pages m d) ≡ Ok s
        → Redone m d (record { copies = s.copies; jobs = f.jobs; first = cond (eqb (least_start f.dirty) 0) f.first (min f.first (least_start f.dirty)) })
    redone_fine e = go (eqb (least_start f.dirty) 0) refl e
      where
        go : (b : Bool) → eqb (least_start f.dirty) 0 ≡ b
            → cond b (Ok (record { copies = stored_pages m d; count = 0 })) (scan (least_start f.dirty) (replay m f.dirty) (record { copies = stored_pages m d; count = 0 }) (whole m d)) ≡ Ok s
            → Redone m d (record { copies = s.copies; jobs = f.jobs; first = cond b f.first (min f.first (least_start f.dirty)) })
        go true q e = subst (λ (t : Replay). Redone m d (record { copies = t.copies; jobs = f.jobs; first = f.first })) (ok_same _ s e) (none_read (eqb-true (least_start f.dirty) 0 q))
        go false q e =
            let one : 1 ≤ least_start f.dirty = omega (arith, eqb-false (least_start f.dirty) 0 q) in
            all_read one (replays f.dirty (least_start f.dirty) (log_length d) (record { copies = stored_pages m d; count = 0 }) s (whole m d) one
            (none_ahead_low (log_length d) (stored_pages m d) ahead) e)

  -- The plans of analysis and redo

  same_analysed : {d e : Devices} (f : Found) → Analysed m d f → After m [] d e → Analysed m e f
  same_analysed {d = d} {e = e} f a x =
      let long : log_length e ≡ log_length d = length_after m x ∙ whole_length m d in
      record {
        ready = ready_after m x f.first a.ready;
        jobs = rw long a.jobs;
        starts = rw (whole_after m x) a.starts;
      }

  same_redone : {d e : Devices} (s : Working) → Redone m d s → After m [] d e → Redone m e s
  same_redone {d = d} {e = e} s a x =
      let long : log_length e ≡ log_length d = length_after m x ∙ whole_length m d in
      record {
        ready = ready_after m x s.first a.ready;
        low = rw (whole_after m x) a.low;
        copies = rw long a.copies;
        jobs = rw long a.jobs;
      }

  abbrev pub AnyRefusal : Refusal → Type 0
  AnyRefusal why = Unit {0}

  -- a plan of a pass
  abbrev pub Passes : {A : Type 0} → World → Plan C A → Type 0
  Passes w p = Safe m (Fine m) AnyRefusal (Unit {0}) w p

  module _ (law : Lawful m) where
    pub analysis_safe : (w : World) → Passes w (analysis_plan m w)
    analysis_safe w = (λ no. tt, λ sizes. (tt, λ d e. found d e sizes))
      where
        found : (d : Devices) → d ≡ powered_on w.devices → sizes_legal w.devices ≡ true
            → Passes (record { devices = d; memory = out }) (analysed_plan (found_in (whole m d) (last_end (slots d))))
        found d e sizes = go (found_in (whole m d) (last_end (slots d))) refl
          where
            power : Powered d
            power = subst Powered (sym e) (record { pages = refl; log = refl })

            legal : sizes_legal d ≡ true
            legal = subst (λ x. sizes_legal x ≡ true) (sym e) sizes

            fine : (f : Found) → found_in (whole m d) (last_end (slots d)) ≡ Ok f → Analysed m d f
            fine f q =
                let k = finds m law (size d) (whole m d) (known_fits m law (size d) 1 (slots d)) (last_end (slots d)) f q in
                let n = whole_length m d in
                record {
                  ready = record { power = power; sizes = legal; one = k.one; until = let u = k.until in omega arith; there = k.there };
                  jobs = rw n at k.jobs;
                  starts = k.starts;
                }

            go : (r : Result Found Refusal) → found_in (whole m d) (last_end (slots d)) ≡ r → Passes (record { devices = d; memory = out }) (analysed_plan r)
            go (Err why) q = record { power = power; fit = tt; stage = λ x y. tt; mild = λ why y. tt }
            go (Ok f) q = record { power = power; fit = tt; stage = λ x y. same_analysed f (fine f q) y; mild = λ why y. tt }

    pub redo_safe : (d : Devices) (memory : Memory) → Base d → Fine m d memory → Passes (record { devices = d; memory = memory }) (redo_plan m (record { devices = d; memory = memory }))
    redo_safe d out b h = (λ no. tt, λ e. absurd (false≢true e))
    redo_safe d (analysed f) b h =
        (λ no. tt, λ e. (λ no. tt, λ p. (λ no. tt, λ q. (λ no. tt, λ ahead. go ahead (replayed m d f.dirty (stored_pages m d)) refl))))
      where
        go : none_ahead (log_length d) (stored_pages m d) ≡ true → (r : Result Replay Refusal) → replayed m d f.dirty (stored_pages m d) ≡ r
            → Passes (record { devices = d; memory = analysed f }) (redone_plan m f (least_start f.dirty) r)
        go ahead (Err why) q = record { power = h.ready.power; fit = tt; stage = λ x y. tt; mild = λ why y. tt }
        go ahead (Ok s) q = record { power = h.ready.power; fit = tt; stage = λ x y. same_redone _ (redone_fine d b f h s ahead q) y; mild = λ why y. tt }
    redo_safe d (redone s) b h = (λ no. tt, λ e. absurd (false≢true e))
    redo_safe d (serving s) b h = (λ no. tt, λ e. absurd (false≢true e))
