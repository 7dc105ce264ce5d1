-- Reading step by step: what each step found where the whole gave a slot, and where the whole gives one. Assumes nothing.
use Rattle.std.proofs.Common.{◌≡◌, ℕ, Bool, true, false, ◌&&◌, is_some, is_ok, Some, None, Ok, Err, Option, Result, refl, arith}
use Rattle.std.specs.Option.{option_map_or, ok_or}
use Rattle.format.specs.declared.slot.Misfit.{Misfit}
use Rattle.format.specs.declared.slot.Misfit.TheVariants.{UnusedNotZero, NotAChange}
use Rattle.format.specs.Slots.{◌>>=◌, asked}

-- questions one after the other, and all at once
pub all_asked : (z a j l k : Bool) (t v w x y : Misfit)
    → is_ok (asked z t >>= λ _. asked a v >>= λ _. asked j w >>= λ _. asked l x >>= λ _. asked k y) ≡ (z && (a && (j && (l && k))))
all_asked false a j l k t v w x y = refl
all_asked true false j l k t v w x y = refl
all_asked true true false l k t v w x y = refl
all_asked true true true false k t v w x y = refl
all_asked true true true true false t v w x y = refl
all_asked true true true true true t v w x y = refl

pub is_done : {E : Type 0} (r : Result (Unit {0}) E) → is_ok r ≡ true → r ≡ Ok tt
is_done (Ok u) e = refl
is_done (Err w) e = let z : ◌≡◌ {A = ℕ} 0 1 = cc in absurd (omega arith)

-- the steps of a reader: a kind, the padding, the questions about the fields, the slot
module _ {K F S : Type 0} (why : Misfit) (padded : Bool) (fields : K → F) (check : F → Result (Unit {0}) Misfit) (slot : F → Option S) where
  abbrev pub read_by : Option K → Result S Misfit
  read_by o = (ok_or o why >>= λ k. asked padded UnusedNotZero >>= λ _. Ok (fields k)) >>= λ f. check f >>= λ _. ok_or (slot f) NotAChange

  pub record Found (o : Option K) (s : S) : Type 0 where
    pub kind : K
    pub kind_is : o ≡ Some kind
    pub padding : padded ≡ true
    pub check_is : check (fields kind) ≡ Ok tt
    pub slot_is : slot (fields kind) ≡ Some s

  last : (k : K) (s : S) (p : Bool) (r : Result (Unit {0}) Misfit) (o : Option S) → padded ≡ p → check (fields k) ≡ r → slot (fields k) ≡ o
      → read_by (Some k) ≡ Ok s → Found (Some k) s
  last k s false r o ep er eo e = let q = rw ep at e in let z : ◌≡◌ {A = ℕ} 0 1 = cc in absurd (omega arith)
  last k s true (Err w) o ep er eo e = let q = rw (ep, er) at e in let z : ◌≡◌ {A = ℕ} 0 1 = cc in absurd (omega arith)
  last k s true (Ok u) None ep er eo e = let q = rw (ep, er, eo) at e in let z : ◌≡◌ {A = ℕ} 0 1 = cc in absurd (omega arith)
  last k s true (Ok u) (Some t) ep er eo e = let q = rw (ep, er, eo) at e in record { kind = k; kind_is = refl; padding = ep; check_is = er; slot_is = cc }

  pub found : (o : Option K) (s : S) → read_by o ≡ Ok s → Found o s
  found None s e = let z : ◌≡◌ {A = ℕ} 0 1 = cc in absurd (omega arith)
  found (Some k) s e = last k s padded (check (fields k)) (slot (fields k)) refl refl refl e

  pub found_when : (o : Option K) → is_ok (read_by o) ≡ option_map_or (λ k. padded && (is_ok (check (fields k)) && is_some (slot (fields k)))) o false
  found_when None = refl
  found_when (Some k) = go padded
    where
      behind : (r : Result (Unit {0}) Misfit) (o : Option S) → is_ok (r >>= λ _. ok_or o NotAChange) ≡ (is_ok r && is_some o)
      behind (Err w) o = refl
      behind (Ok u) None = refl
      behind (Ok u) (Some s) = refl

      go : (p : Bool) → is_ok ((asked p UnusedNotZero >>= λ _. Ok (fields k)) >>= λ f. check f >>= λ _. ok_or (slot f) NotAChange)
          ≡ (p && (is_ok (check (fields k)) && is_some (slot (fields k))))
      go false = refl
      go true = behind (check (fields k)) (slot (fields k))
