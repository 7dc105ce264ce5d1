-- Four bytes and the number that they spell: at a place, behind a front that was taken off, spelled again; sums modulo 2^32.
use Rattle.std.proofs.Common.{◌≡◌, ℕ, ◌+◌, ◌-◌, ◌*◌, ◌/◌, ◌%◌, ◌^◌, ◌<◌, ◌≤◌, List, [], ◌∷◌, ◌++◌, length, get_or, take, drop, sym, refl, ap, ◌∙◌, add-zero, arith, lit<}
use Rattle.std.proofs.lemmas.List.{get_or-take, get_or-drop, drop-drop, take-append-drop}
use Rattle.std.proofs.lemmas.Nat.{mod_below, div_below, shr-shr}
use Rattle.format.specs.Bytes.{Bytes, number_at, spelled}
use Rattle.format.proofs.Rows.{Small, small_four, bytes_part}

pub small_spelled : (n : ℕ) → Small (spelled n)
small_spelled n =
    let low : (m : ℕ) → m % 256 < 256 = λ m. mod_below m 256 (lit< tt) in
    small_four (n % 256) (n / 256 % 256) (n / 65536 % 256) (n / 16777216 % 256) [] (low _) (low _) (low _) (low _) (λ k. lit< tt)

pub bytes_spelled : (n : ℕ) → Bytes 4 (spelled n)
bytes_spelled n = record { size = refl; small = small_spelled n }

-- a number as its lowest byte and what is above it
split : (n : ℕ) → n % 256 + n / 256 * 256 ≡ n
split n = omega arith

low : (x y : ℕ) → x < 256 → (x + y * 256) % 256 ≡ x
low x y h = omega arith

high : (x y : ℕ) → x < 256 → (x + y * 256) / 256 ≡ y
high x y h = omega arith

pub number_spelled : (n : ℕ) → n < 2 ^ 32 → number_at (spelled n) 0 ≡ n
number_spelled n h =
    let e2 : n / 256 / 256 ≡ n / 65536 = shr-shr n 8 8 in
    let e3 : n / 65536 / 256 ≡ n / 16777216 = shr-shr n 16 8 in
    let s0 = split n in
    let s1 = split (n / 256) in
    let s2 : n / 65536 % 256 + n / 65536 / 256 * 256 ≡ n / 65536 = split (n / 65536) in
    let top : n / 16777216 < 256 = div_below n 16777216 256 (lit< tt) h in
    let s3 : n / 16777216 % 256 ≡ n / 16777216 = omega arith in
    let t2 : n / 65536 % 256 + n / 16777216 * 256 ≡ n / 65536 = rw e3 at s2 in
    let t1 : n / 256 % 256 + n / 65536 * 256 ≡ n / 256 = rw e2 at s1 in
    rw s3 (omega arith)

pub number_small : (xs : List ℕ) → Small xs → number_at xs 0 < 2 ^ 32
number_small xs p = omega (arith, p 0, p 1, p 2, p 3)

spelled_four : (a b c d : ℕ) → a < 256 → b < 256 → c < 256 → d < 256 → spelled (a + b * 256 + c * 65536 + d * 16777216) ≡ a ∷ b ∷ c ∷ d ∷ []
spelled_four a b c d ha hb hc hd =
    let n = a + b * 256 + c * 65536 + d * 16777216 in
    let n0 : n ≡ a + (b + (c + d * 256) * 256) * 256 = omega arith in
    let q1 : n / 256 ≡ b + (c + d * 256) * 256 = rw n0 (high a (b + (c + d * 256) * 256) ha) in
    let q2 : n / 65536 ≡ c + d * 256 = sym (shr-shr n 8 8) ∙ rw q1 (high b (c + d * 256) hb) in
    let q3 : n / 16777216 ≡ d = sym (shr-shr n 16 8) ∙ rw q2 (high c d hc) in
    let e0 : n % 256 ≡ a = rw n0 (low a (b + (c + d * 256) * 256) ha) in
    let e1 : n / 256 % 256 ≡ b = rw q1 (low b (c + d * 256) hb) in
    let e2 : n / 65536 % 256 ≡ c = rw q2 (low c d hc) in
    let e3 : n / 16777216 % 256 ≡ d = rw q3 (omega (arith, hd)) in
    cc

pub spelled_number : (xs : List ℕ) → Bytes 4 xs → spelled (number_at xs 0) ≡ xs
spelled_number [] p = absurd (omega (arith, p.size))
spelled_number (a ∷ []) p = absurd (omega (arith, p.size))
spelled_number (a ∷ b ∷ []) p = absurd (omega (arith, p.size))
spelled_number (a ∷ b ∷ c ∷ []) p = absurd (omega (arith, p.size))
spelled_number (a ∷ b ∷ c ∷ d ∷ []) p = spelled_four a b c d (p.small 0) (p.small 1) (p.small 2) (p.small 3)
spelled_number (a ∷ b ∷ c ∷ d ∷ e ∷ xs) p = absurd (omega (arith, p.size))

pub sum_back : (m a : ℕ) → m < 2 ^ 32 → a < 2 ^ 32 → ((m + a) % 2 ^ 32 + (2 ^ 32 - a)) % 2 ^ 32 ≡ m
sum_back m a h k = omega arith

-- a number read where it stands, and in the four bytes cut out
pub number_part : (xs : List ℕ) (at : ℕ) → number_at (take 4 (drop at xs)) 0 ≡ number_at xs at
number_part xs at =
    let e0 : get_or (take 4 (drop at xs)) 0 0 ≡ get_or xs at 0 = get_or-take 4 (drop at xs) 0 0 (lit< tt) ∙ get_or-drop at xs 0 0 ∙ ap (λ i. get_or xs i 0) (add-zero at) in
    let e1 : get_or (take 4 (drop at xs)) 1 0 ≡ get_or xs (at + 1) 0 = get_or-take 4 (drop at xs) 1 0 (lit< tt) ∙ get_or-drop at xs 1 0 in
    let e2 : get_or (take 4 (drop at xs)) 2 0 ≡ get_or xs (at + 2) 0 = get_or-take 4 (drop at xs) 2 0 (lit< tt) ∙ get_or-drop at xs 2 0 in
    let e3 : get_or (take 4 (drop at xs)) 3 0 ≡ get_or xs (at + 3) 0 = get_or-take 4 (drop at xs) 3 0 (lit< tt) ∙ get_or-drop at xs 3 0 in
    cc

-- the number at a place, spelled again, stands there
pub spelled_at : (b : List ℕ) (i : ℕ) → Small b → i + 4 ≤ length b → spelled (number_at b i) ++ drop (i + 4) b ≡ drop i b
spelled_at b i small h =
    let part = spelled_number (take 4 (drop i b)) (bytes_part i 4 (length b) b h (record { size = refl; small = small })) in
    ap (λ (n : ℕ). spelled n ++ drop (i + 4) b) (sym (number_part b i)) ∙ ap (λ (xs : List ℕ). xs ++ drop (i + 4) b) part
    ∙ ap (λ (xs : List ℕ). take 4 (drop i b) ++ xs) (sym (drop-drop 4 i b)) ∙ take-append-drop 4 (drop i b)
