-- The server's memory, by its stage. Assumes nothing.
use Rattle.std.specs.Prelude.{ℕ, Bool, true, false, List}
use Rattle.format.specs.declared.page.Page.{Page}
use Rattle.rules.specs.State.{Memory, out, analysed, redone, serving, is_analysed, is_redone, is_serving}
use Rattle.rules.specs.Tables.{Jobs, Dirty}
use Rattle.calls.specs.declared.state.Stage.{Stage}
use Rattle.calls.specs.declared.state.Stage.TheVariants.{OutOfService, Analysed, Redone, Serving}

-- what tables and copies count for at a stage
abbrev pub memory_of : Stage → Jobs → Dirty → List Page → ℕ → Memory
memory_of OutOfService jobs dirty copies first = out
memory_of Analysed jobs dirty copies first = analysed (record { jobs = jobs; dirty = dirty; first = first })
memory_of Redone jobs dirty copies first = redone (record { copies = copies; jobs = jobs; first = first })
memory_of Serving jobs dirty copies first = serving (record { copies = copies; jobs = jobs; first = first })

abbrev is_out : Memory → Bool
is_out out = true
is_out (analysed f) = false
is_out (redone s) = false
is_out (serving s) = false

abbrev pub is_at : Stage → Memory → Bool
is_at OutOfService m = is_out m
is_at Analysed m = is_analysed m
is_at Redone m = is_redone m
is_at Serving m = is_serving m
