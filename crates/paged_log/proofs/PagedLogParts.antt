-- A log page as the code cuts it.
use Rattle.std.proofs.Common.{◌≡◌, ℕ, zero, suc, ◌+◌, ◌-◌, ◌*◌, ◌/◌, ◌<◌, List, [], ◌++◌, length, get_or, take, drop, replicate, sym, refl, ap, ◌∙◌, add-one, arith}
use borrow.Rule.Slice.PartMut.{put_mid}
use Rattle.std.proofs.lemmas.List.{drop-drop, drop-take, drop-append-le, length-take-le, length-take, length-drop, take_all}
use Rattle.std.specs.Simd.{first_chunks}
use Rattle.format.specs.Bytes.{spelled}
use Rattle.paged_log.specs.PagedLogs.{slot_in, page_with}

chunk_at : (chunks k : ℕ) (xs : List ℕ) → k < chunks → get_or (first_chunks 60 chunks xs) k [] ≡ take 60 (drop (60 * k) xs)
chunk_at zero k xs h = absurd (omega arith)
chunk_at (suc chunks) zero xs h = refl
chunk_at (suc chunks) (suc k) xs h =
    chunk_at chunks k (drop 60 xs) (omega arith) ∙ ap (take 60) (drop-drop (60 * k) 60 xs ∙ ap (λ (n : ℕ). drop n xs) (omega arith))

-- a slot is one of the chunks of 60 bytes behind the page's head
pub slot_part : (page : List ℕ) (place : ℕ) → length page ≡ 256 → place < 4
    → get_or (first_chunks 60 (length (take 240 (drop 16 page)) / 60) (take 240 (drop 16 page))) place [] ≡ slot_in page place
slot_part page place whole h =
    let d = length-drop 16 page in
    let all = take_all 240 (drop 16 page) (omega arith) in
    let four : length (take 240 (drop 16 page)) / 60 ≡ 4 = let t = length-take 240 (drop 16 page) in omega arith in
    rw four (chunk_at 4 place (take 240 (drop 16 page)) h ∙ ap (λ (l : List ℕ). take 60 (drop (60 * place) l)) all)

pub body_part : (page slot : List ℕ) (place : ℕ) → length page ≡ 256 → place < 4
    → drop 16 (put_mid (16 + 60 * place) ((16 + 60 * place + 60) - (16 + 60 * place)) page slot)
    ≡ take (60 * place) (drop 16 page) ++ (slot ++ drop (60 * place + 60) (drop 16 page))
body_part page slot place whole h =
    let k = (16 + 60 * place + 60) - (16 + 60 * place) in
    let n : k ≡ 60 = omega arith in
    let rest = slot ++ drop k (drop (16 + 60 * place) page) in
    let size = length-take-le (16 + 60 * place) page (omega arith) in
    let behind : drop k (drop (16 + 60 * place) page) ≡ drop (60 * place + 60) (drop 16 page) =
    ap (λ (j : ℕ). drop j (drop (16 + 60 * place) page)) n ∙ ap (drop 60) (sym (drop-drop (60 * place) 16 page)) ∙ drop-drop 60 (60 * place) (drop 16 page) in
    drop-append-le 16 (take (16 + 60 * place) page) rest (omega arith)
    ∙ ap (λ (l : List ℕ). l ++ rest) (drop-take 16 (60 * place) page)
    ∙ ap (λ (l : List ℕ). take (60 * place) (drop 16 page) ++ (slot ++ l)) behind

pub page_part : (page slot part : List ℕ) (place : ℕ) → length page ≡ 256 → place < 4 → part ≡ slot
    → spelled (place + 1) ++ (replicate 12 0 ++ drop 16 (put_mid (16 + 60 * place) ((16 + 60 * place + 60) - (16 + 60 * place)) page part)) ≡ page_with page place slot
page_part page slot part place whole h e =
    let at = 16 + 60 * place in
    ap (λ (n : ℕ). spelled n ++ (replicate 12 0 ++ drop 16 (put_mid at (at + 60 - at) page part))) (add-one place)
    ∙ ap (λ (l : List ℕ). spelled (suc place) ++ (replicate 12 0 ++ l))
    (ap (λ (l : List ℕ). drop 16 (put_mid at (at + 60 - at) page l)) e ∙ body_part page slot place whole h)
