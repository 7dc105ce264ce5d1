-- A page in 256 bytes. Assumes nothing.
use Rattle.std.specs.Prelude.{ℕ, List, ◌++◌, drop, replicate}
use Rattle.format.specs.declared.page.Page.{Page}
use Rattle.format.specs.Bytes.{number_at, spelled}

-- the LRC in bytes 0 to 3, then 252 bytes of content
abbrev pub page_bytes : Page → List ℕ
page_bytes p = spelled p.lrc ++ p.content

abbrev pub page_of : List ℕ → Page
page_of b = record { lrc = number_at b 0; content = drop 4 b }

abbrev pub blank_page : Page
blank_page = record { lrc = 0; content = replicate 252 0 }
