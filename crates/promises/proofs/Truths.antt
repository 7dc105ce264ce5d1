-- A checkpoint says the same in every log that is the same up to its end. Assumes nothing.
use Rattle.std.proofs.Common.{◌≡◌, ℕ, suc, pred, ◌≤◌, Bool, true, false, cond, eqb, ltb, leb, [], ◌∷◌, ◌++◌, length, is_some, Some, None, Ok, Err, Option, Result, unwrap_or, sym, refl, ap, ◌∙◌, subst, arith}
use Rattle.std.specs.Option.{option_map}
use Rattle.std.proofs.lemmas.Bool.{eqb-true, cond_both, leb-true}
use Rattle.format.specs.declared.slot.Slot.{Slot}
use Rattle.format.specs.declared.slot.Slot.TheVariants.{Record, Job, Checkpoint}
use Rattle.format.specs.declared.slot.CheckpointPart.TheVariants.{Begin, DirtyPage, OpenJob, Complete}
use Rattle.recovery_log.specs.Log.{Log, new_number}
use Rattle.rules.specs.declared.refusal.Refusal.{Refusal}
use Rattle.rules.specs.Reading.{at, up_to, scan, then}
use Rattle.rules.specs.Restart.{Tables, tables, Start, gather, from_begin, from_end, start_at}
use Rattle.rules.specs.Service.{has_place}
use Rattle.rules.specs.Tables.{Dirty, find_page, is_job}
use Rattle.promises.proofs.Cuts.{at_up_to, up_to_up_to, legal_up_to}
use Rattle.promises.proofs.Invariants.{start_of, Truth}
use Rattle.promises.proofs.Legal.{count, open_jobs, NextSlot, Legal}

-- every start is at most n
abbrev Low : ℕ → Dirty → Type 0
Low n [] = Unit {0}
Low n (x ∷ xs) = (x.start ≤ n) × Low n xs

low_later : (n k : ℕ) (xs : Dirty) → n ≤ k → Low n xs → Low k xs
low_later n k [] le h = tt
low_later n k (x ∷ xs) le h = let a = h.0 in (omega arith, low_later n k xs le h.1)

low_put : (n p s : ℕ) (xs : Dirty) → s ≤ n → Low n xs → Low n (xs ++ record { page = p; start = s } ∷ [])
low_put n p s [] le h = (le, tt)
low_put n p s (x ∷ xs) le h = (h.0, low_put n p s xs le h.1)

low_start : (n p k : ℕ) (xs : Dirty) → Low n xs → k ≤ n → start_of p xs k ≤ n
low_start n p k [] h le = le
low_start n p k (x ∷ xs) h le = go (eqb x.page p) (low_start n p k xs h.1 le)
  where
    go : (t : Bool) → start_of p xs k ≤ n → unwrap_or (option_map (λ e. e.start) (cond t (Some x) (find_page p xs))) k ≤ n
    go true ih = h.0
    go false ih = ih

abbrev LowTables : ℕ → Result Tables Refusal → Type 0
LowTables n (Ok t) = Low n t.dirty
LowTables n (Err why) = Unit {0}

abbrev LowFrom : ℕ → Result Start Refusal → Type 0
LowFrom n (Ok s) = Low n s.found.dirty
LowFrom n (Err why) = Unit {0}

module _ {C : Type 0} where
  pub length_cut : (n : ℕ) (L : Log C) → length (up_to n L) ≤ n
  length_cut n [] = omega arith
  length_cut n (x ∷ L) = let k = length_cut n L in
      cond_both (leb (new_number L) n) (x ∷ L) (up_to n L) (λ (K : Log C). length K ≤ n) (λ e. leb-true _ _ e) (λ e. k)

  module _ (size capacity : ℕ) where
    -- the entries between a checkpoint's begin and its end name older slots
    gather_low : (x : Option (Slot C)) (L : Log C) → NextSlot size x L → (r : Result Tables Refusal) → LowTables (length L) r
        → LowTables (suc (length L)) (then r (gather (new_number L) x))
    gather_low x L h (Err why) low = tt
    gather_low None L h (Ok t) low = tt
    gather_low (Some (Record r)) L h (Ok t) low = tt
    gather_low (Some (Job e j)) L h (Ok t) low = tt
    gather_low (Some (Checkpoint Begin)) L h (Ok t) low = tt
    gather_low (Some (Checkpoint (DirtyPage p s))) L h (Ok t) low =
        let k = h.2 in
        let was = low_later (length L) (suc (length L)) t.dirty (omega arith) low in
        cond_both (is_some (find_page p t.dirty)) _ _ (LowTables (suc (length L))) (λ e. tt)
        (λ e. cond_both (is_some (find_page p t.dirty)) t.dirty (t.dirty ++ record { page = p; start = s } ∷ []) (Low (suc (length L)))
        (λ f. was) (λ f. low_put (suc (length L)) p s t.dirty (omega arith) was))
    gather_low (Some (Checkpoint (OpenJob j n))) L h (Ok t) low =
        let was = low_later (length L) (suc (length L)) t.dirty (omega arith) low in
        cond_both (has_place t.jobs) _ _ (LowTables (suc (length L)))
        (λ e. cond_both (is_job j t.jobs) _ _ (LowTables (suc (length L))) (λ f. tt) (λ f. was)) (λ e. tt)
    gather_low (Some (Checkpoint (Complete b))) L h (Ok t) low = tt

    gathered_low : (from : ℕ) (L : Log C) → Legal size capacity L → LowTables (length L) (scan from gather (tables [] []) L)
    gathered_low from [] h = tt
    gathered_low from (x ∷ L) h =
        let ih = gathered_low from L h.0 in
        cond_both (ltb (new_number L) from) _ _ (LowTables (suc (length L))) (λ e. tt) (λ e. gather_low x L h.1 _ ih)

    from_begin_low : (L : Log C) (e b : ℕ) (x : Option (Slot C)) → Legal size capacity L → LowFrom e (from_begin L e b x)
    from_begin_low L e b None h = tt
    from_begin_low L e b (Some (Record r)) h = tt
    from_begin_low L e b (Some (Job v j)) h = tt
    from_begin_low L e b (Some (Checkpoint Begin)) h =
        let K = up_to (pred e) L in
        let few = length_cut (pred e) L in
        go (scan (suc b) gather (tables [] []) K) (gathered_low (suc b) K (legal_up_to size capacity (pred e) L h))
      where
        go : (r : Result Tables Refusal) → LowTables (length (up_to (pred e) L)) r → LowFrom e (then r (λ t. Ok (record { begin = b; found = t })))
        go (Ok t) low = low_later (length (up_to (pred e) L)) e t.dirty (omega (arith, length_cut (pred e) L)) low
        go (Err why) low = tt
    from_begin_low L e b (Some (Checkpoint (DirtyPage p s))) h = tt
    from_begin_low L e b (Some (Checkpoint (OpenJob j n))) h = tt
    from_begin_low L e b (Some (Checkpoint (Complete a))) h = tt

    from_end_low : (L : Log C) (e : ℕ) (x : Option (Slot C)) → Legal size capacity L → LowFrom e (from_end L e x)
    from_end_low L e None h = tt
    from_end_low L e (Some (Record r)) h = tt
    from_end_low L e (Some (Job v j)) h = tt
    from_end_low L e (Some (Checkpoint Begin)) h = tt
    from_end_low L e (Some (Checkpoint (DirtyPage p s))) h = tt
    from_end_low L e (Some (Checkpoint (OpenJob j n))) h = tt
    from_end_low L e (Some (Checkpoint (Complete b))) h = from_begin_low L e b (at L b) h

    start_low : (L : Log C) (e : ℕ) (s : Start) → Legal size capacity L → start_at L e ≡ Ok s → Low e s.found.dirty
    start_low L e s h q = subst (LowFrom e) q (cond_both (eqb e 0) _ _ (LowFrom e) (λ z. tt) (λ z. from_end_low L e (at L e) h))

    -- an end stands after its begin
    pub legal_end : (L : Log C) (e b : ℕ) → Legal size capacity L → at L e ≡ Some (Checkpoint (Complete b)) → b ≤ e
    legal_end [] e b h q = let z : ◌≡◌ {A = ℕ} 0 1 = cc in absurd (omega arith)
    legal_end (x ∷ L) e b h q = go (eqb e (new_number L)) refl q (legal_end L e b h.0)
      where
        go : (t : Bool) → eqb e (new_number L) ≡ t → cond t x (at L e) ≡ Some (Checkpoint (Complete b))
            → (at L e ≡ Some (Checkpoint (Complete b)) → b ≤ e) → b ≤ e
        go true n q' ih = let k = subst (λ (y : Option (Slot C)). NextSlot size y L) q' h.1 in omega (arith, eqb-true _ _ n, k.1)
        go false n q' ih = ih q'

  -- stored pages only take more records
  pub truth_more : (L : Log C) (e : ℕ) (lrcs higher : ℕ → ℕ) → ((p : ℕ) → lrcs p ≤ higher p) → Truth lrcs L e → Truth higher L e
  truth_more L e lrcs higher up t = record {
    start = t.start;
    reads = t.reads;
    from = t.from;
    until = t.until;
    jobs = t.jobs;
    pages = λ p. let k = t.pages p in let u = up p in omega arith;
    positive = t.positive;
  }

  -- logs that are the same up to e
  module _ (L M : Log C) (e : ℕ) (same : up_to e L ≡ up_to e M) where
    pub cut_same : (k : ℕ) → k ≤ e → up_to k L ≡ up_to k M
    cut_same k le = sym (up_to_up_to e k L le) ∙ (ap (up_to k) same ∙ up_to_up_to e k M le)

    at_same : (k : ℕ) → k ≤ e → at L k ≡ at M k
    at_same k le = sym (at_up_to e k L le) ∙ (ap (λ (K : Log C). at K k) same ∙ at_up_to e k M le)

    begin_same : (b : ℕ) (x : Option (Slot C)) → from_begin L e b x ≡ from_begin M e b x
    begin_same b None = refl
    begin_same b (Some (Record r)) = refl
    begin_same b (Some (Job v j)) = refl
    begin_same b (Some (Checkpoint Begin)) =
        ap (λ (K : Log C). then (scan (suc b) gather (tables [] []) K) (λ t. Ok (record { begin = b; found = t }))) (cut_same (pred e) (omega arith))
    begin_same b (Some (Checkpoint (DirtyPage p s))) = refl
    begin_same b (Some (Checkpoint (OpenJob j n))) = refl
    begin_same b (Some (Checkpoint (Complete a))) = refl

    pub start_same : (b : ℕ) → at L e ≡ Some (Checkpoint (Complete b)) → b ≤ e → start_at L e ≡ start_at M e
    start_same b q le =
        let q' : at M e ≡ Some (Checkpoint (Complete b)) = sym (at_same e (omega arith)) ∙ q in
        ap (λ (r : Result Start Refusal). cond (eqb e 0) (Ok (record { begin = 1; found = tables [] [] })) r)
        (ap (from_end L e) q ∙ (begin_same b (at L b) ∙ (ap (from_begin M e b) (at_same b le) ∙ sym (ap (from_end M e) q'))))

    pub truth_same : (size capacity : ℕ) (lrcs : ℕ → ℕ) (b : ℕ) → Legal size capacity L → at L e ≡ Some (Checkpoint (Complete b)) → Truth lrcs L e → Truth lrcs M e
    truth_same size capacity lrcs b h q t =
        let until = t.until in
        let low = start_low size capacity L e t.start h t.reads in
        record {
          start = t.start;
          reads = sym (start_same b q (legal_end size capacity L e b h q)) ∙ t.reads;
          from = t.from;
          until = until;
          jobs = t.jobs ∙ ap open_jobs (cut_same (pred t.start.begin) (omega arith));
          pages = λ p. let k = low_start e p t.start.begin t.start.found.dirty low until in
              subst (λ (K : Log C). count K p ≤ lrcs p) (cut_same (pred (start_of p t.start.found.dirty t.start.begin)) (omega arith)) (t.pages p);
          positive = t.positive;
        }
