-- A page in its bytes and back. Assumes nothing.
use Rattle.std.proofs.Common.{◌≡◌, ℕ, ◌^◌, ◌<◌, List, length, take, drop, arith}
use Rattle.std.proofs.lemmas.List.{take_all, length-drop}
use Rattle.format.specs.declared.page.Page.{Page}
use Rattle.format.specs.Bytes.{Bytes}
use Rattle.format.specs.Pages.{page_bytes, page_of}
use Rattle.format.proofs.Numbers.{number_spelled, spelled_at}

pub page_reads : (p : Page) → p.lrc < 2 ^ 32 → page_of (page_bytes p) ≡ p
page_reads p h = λ i. record { lrc = number_spelled p.lrc h i; content = p.content }

pub page_written : (b : List ℕ) → Bytes 256 b → page_bytes (page_of b) ≡ b
page_written b h = spelled_at b 0 h.small (omega arith)

pub content_part : (b : List ℕ) → length b ≡ 256 → take 252 (drop 4 b) ≡ drop 4 b
content_part b h = take_all 252 (drop 4 b) (rw (length-drop 4 b) (omega arith))
