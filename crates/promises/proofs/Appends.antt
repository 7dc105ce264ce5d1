-- Lists of appends: safe if the log stays legal and exclusive with all their slots, and what they leave. Assumes nothing.
use Rattle.std.proofs.Common.{◌≡◌, ℕ, ◌≤◌, List, [], ◌∷◌, ◌++◌, map, reverse, length, Some, sym, refl, ap, ◌∙◌, subst, arith}
use mathlib.Core.List.{reverse_aux, reverse_aux-eq}
use Rattle.format.specs.declared.page.Page.{Page}
use Rattle.format.specs.declared.slot.Slot.{Slot}
use Rattle.format.specs.declared.slot.Slot.TheVariants.{Record, Job, Checkpoint}
use Rattle.format.specs.declared.slot.JobEvent.TheVariants.{Open, Commit, End}
use Rattle.format.specs.declared.slot.CheckpointPart.TheVariants.{Begin, DirtyPage, OpenJob, Complete}
use Rattle.format.specs.Changes.{Meaning, Lawful}
use Rattle.device.specs.PageStores.{PageModel}
use Rattle.recovery_log.specs.Log.{Log}
use Rattle.rules.specs.Ledger.{Ledger}
use Rattle.rules.specs.Plans.{Op, append}
use Rattle.rules.specs.Restart.{whole}
use Rattle.rules.specs.Service.{appends}
use Rattle.rules.specs.State.{Devices, size, log_length}
use Rattle.promises.proofs.Invariants.{stored, stored_lrcs, Kept}
use Rattle.promises.proofs.Legal.{NextSlot, Room, Legal, Alone, Exclusive}
use Rattle.promises.proofs.Operations.{did_append, safe_did}
use Rattle.promises.proofs.Safety.{Honest, onto, SafeAppend, SafeOps, Dids, Grown}

module _ {C : Type 0} where
  -- slots that owe nothing to the stored pages and to the ledger: no commit, and no end of a checkpoint
  abbrev pub PlainSlot : Slot C → Type 0
  PlainSlot (Record r) = Unit {0}
  PlainSlot (Job Open j) = Unit {0}
  PlainSlot (Job Commit j) = ⊥
  PlainSlot (Job End j) = Unit {0}
  PlainSlot (Checkpoint Begin) = Unit {0}
  PlainSlot (Checkpoint (DirtyPage p s)) = Unit {0}
  PlainSlot (Checkpoint (OpenJob j n)) = Unit {0}
  PlainSlot (Checkpoint (Complete b)) = ⊥

  abbrev pub Plain : List (Slot C) → Type 0
  Plain [] = Unit {0}
  Plain (s ∷ ss) = PlainSlot s × Plain ss

  -- each slot gives what it owes on top of the older ones
  abbrev pub Honests : Ledger C → (ℕ → ℕ) → List (Slot C) → Log C → Type 0
  Honests h lrcs [] L = Unit {0}
  Honests h lrcs (s ∷ ss) L = Honest h lrcs (onto ss L) s × Honests h lrcs ss L

  plain_slot : (h : Ledger C) (lrcs : ℕ → ℕ) (L : Log C) (s : Slot C) → PlainSlot s → Honest h lrcs L s
  plain_slot h lrcs L (Record r) x = tt
  plain_slot h lrcs L (Job Open j) x = tt
  plain_slot h lrcs L (Job Commit j) x = absurd x
  plain_slot h lrcs L (Job End j) x = tt
  plain_slot h lrcs L (Checkpoint Begin) x = tt
  plain_slot h lrcs L (Checkpoint (DirtyPage p s)) x = tt
  plain_slot h lrcs L (Checkpoint (OpenJob j n)) x = tt
  plain_slot h lrcs L (Checkpoint (Complete b)) x = absurd x

  pub plain_honest : (h : Ledger C) (lrcs : ℕ → ℕ) (ss : List (Slot C)) (L : Log C) → Plain ss → Honests h lrcs ss L
  plain_honest h lrcs [] L x = tt
  plain_honest h lrcs (s ∷ ss) L x = (plain_slot h lrcs (onto ss L) s x.0, plain_honest h lrcs ss L x.1)

  pub onto_append : (ss ts : List (Slot C)) (L : Log C) → onto (ss ++ ts) L ≡ onto ss (onto ts L)
  onto_append [] ts L = refl
  onto_append (s ∷ ss) ts L = ap (λ (K : Log C). Some s ∷ K) (onto_append ss ts L)

  -- appends in the order of their slots
  appends_turned : (ss ts : List (Slot C)) (ops : List (Op C)) → appends (reverse_aux ss ts) ops ≡ appends ts (map append ss ++ ops)
  appends_turned [] ts ops = refl
  appends_turned (s ∷ ss) ts ops = appends_turned ss (s ∷ ts) ops

  pub appended_in_order : (ss : List (Slot C)) (ops : List (Op C)) → map append ss ++ ops ≡ appends (reverse ss) ops
  appended_in_order ss ops = sym (appends_turned ss [] ops)

  pub onto_reverse : (s : Slot C) (ss : List (Slot C)) (L : Log C) → onto (reverse (s ∷ ss)) L ≡ onto (reverse ss) (Some s ∷ L)
  onto_reverse s ss L = ap (λ (xs : List (Slot C)). onto xs L) (reverse_aux-eq ss (s ∷ [])) ∙ onto_append (reverse ss) (s ∷ []) L

module _ {C : Type 0} (m : Meaning C) where
  pub grown_none : (d : Devices) → d.log.forced ≤ log_length d → Grown m [] d d
  grown_none d held = record { log = refl; pages = refl; capacity = refl; raised = omega arith; held = held; power = λ t. t }

  pub grown_more : (ss : List (Slot C)) (s : Slot C) (d e f : Devices) → Grown m ss d e → Grown m (s ∷ []) e f → Grown m (s ∷ ss) d f
  grown_more ss s d e f g k = let a = g.raised in let b = k.raised in record {
    log = k.log ∙ ap (λ (L : Log C). Some s ∷ L) g.log;
    pages = k.pages ∙ g.pages;
    capacity = k.capacity ∙ g.capacity;
    raised = omega arith;
    held = k.held;
    power = λ t. k.power (g.power t);
  }

  -- the pages stay
  pub grown_size : (ss : List (Slot C)) (d e : Devices) → Grown m ss d e → size e ≡ size d
  grown_size ss d e g = ap (λ (x : PageModel). length x.pages) g.pages

  pub grown_stored : (ss : List (Slot C)) (d e : Devices) → Grown m ss d e → stored m e ≡ stored m d
  grown_stored ss d e g = ap (λ (x : PageModel). stored m (record { pages = x; log = e.log })) g.pages

  -- the next slot of a list, on what the older ones left
  safe_next : (h : Ledger C) (ss : List (Slot C)) (s : Slot C) (d e : Devices) → Grown m ss d e → Legal (size d) d.log.capacity (onto (s ∷ ss) (whole m d))
      → Exclusive (onto (s ∷ ss) (whole m d)) → Honest h (stored_lrcs m d) (onto ss (whole m d)) s → SafeAppend m h e s
  safe_next h ss s d e g legal alone honest =
      let same-lrcs : stored_lrcs m e ≡ stored_lrcs m d = ap {B = ℕ → ℕ} (λ (f : ℕ → Page) (p : ℕ). (f p).lrc) (grown_stored ss d e g) in
      record {
        fits = subst (λ (n : ℕ). NextSlot n (Some s) (whole m e)) (sym (grown_size ss d e g)) (subst (NextSlot (size d) (Some s)) (sym g.log) legal.1);
        room = subst (λ (n : ℕ). Room n (Some s ∷ whole m e)) (sym g.capacity) (subst (λ (L : Log C). Room d.log.capacity (Some s ∷ L)) (sym g.log) legal.2);
        alone = subst (Alone (Some s)) (sym g.log) alone.1;
        honest = subst (λ (f : ℕ → ℕ). Honest h f (whole m e) s) (sym same-lrcs) (subst (λ (L : Log C). Honest h (stored_lrcs m d) L s) (sym g.log) honest);
      }

module _ {C : Type 0} (m : Meaning C) (law : Lawful m) where
  pub safe_honest : (h : Ledger C) (ss : List (Slot C)) (ops : List (Op C)) (d : Devices) → Kept m h d → Honests h (stored_lrcs m d) ss (whole m d)
      → Legal (size d) d.log.capacity (onto ss (whole m d)) → Exclusive (onto ss (whole m d)) → ((e : Devices) → Grown m ss d e → Kept m h e → SafeOps m h ops e)
      → SafeOps m h (appends ss ops) d
  safe_honest h [] ops d k honest legal alone rest = rest d (grown_none m d k.durable.forced) k
  safe_honest h (s ∷ ss) ops d k honest legal alone rest = safe_honest h ss (append s ∷ ops) d k honest.1 legal.0 alone.0
      (λ e g k'. let safe = safe_next m h ss s d e g legal alone honest.0 in
      (safe, λ f x. rest f (grown_more m ss s d e f g (did_append m law h e f s k' safe x)) (safe_did m law h (append s) e f k' safe x)))

  pub dids_honest : (h : Ledger C) (ss : List (Slot C)) (ops : List (Op C)) (d f : Devices) → Kept m h d → Honests h (stored_lrcs m d) ss (whole m d)
      → Legal (size d) d.log.capacity (onto ss (whole m d)) → Exclusive (onto ss (whole m d)) → Dids m (appends ss ops) d f
      → (e : Devices) × (Grown m ss d e) × (Kept m h e) × (Dids m ops e f)
  dids_honest h [] ops d f k honest legal alone x = (d, grown_none m d k.durable.forced, k, x)
  dids_honest h (s ∷ ss) ops d f k honest legal alone x =
      let y = dids_honest h ss (append s ∷ ops) d f k honest.1 legal.0 alone.0 x in go y.0 y.1 y.2 y.3
    where
      go : (e : Devices) → Grown m ss d e → Kept m h e → Dids m (append s ∷ ops) e f → (e : Devices) × (Grown m (s ∷ ss) d e) × (Kept m h e) × (Dids m ops e f)
      go e g k' (Dids.next {e = e'} z zs) = let safe = safe_next m h ss s d e g legal alone honest.0 in
          (e', grown_more m ss s d e e' g (did_append m law h e e' s k' safe z), safe_did m law h (append s) e e' k' safe z, zs)

  pub safe_appends : (h : Ledger C) (ss : List (Slot C)) (ops : List (Op C)) (d : Devices) → Kept m h d → Plain ss
      → Legal (size d) d.log.capacity (onto ss (whole m d)) → Exclusive (onto ss (whole m d)) → ((e : Devices) → Grown m ss d e → Kept m h e → SafeOps m h ops e)
      → SafeOps m h (appends ss ops) d
  safe_appends h ss ops d k plain = safe_honest h ss ops d k (plain_honest h (stored_lrcs m d) ss (whole m d) plain)

  pub dids_appends : (h : Ledger C) (ss : List (Slot C)) (ops : List (Op C)) (d f : Devices) → Kept m h d → Plain ss
      → Legal (size d) d.log.capacity (onto ss (whole m d)) → Exclusive (onto ss (whole m d)) → Dids m (appends ss ops) d f
      → (e : Devices) × (Grown m ss d e) × (Kept m h e) × (Dids m ops e f)
  dids_appends h ss ops d f k plain = dids_honest h ss ops d f k (plain_honest h (stored_lrcs m d) ss (whole m d) plain)
