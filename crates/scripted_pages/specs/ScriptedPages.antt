-- The page store that scripted memory is. Assumes nothing.
use Rattle.std.specs.Prelude.{vec_items}
use Rattle.scripted_pages.specs.declared.ScriptedPages.{ScriptedPages}
use Rattle.device.specs.PageStores.{PageModel}

abbrev pub model : ScriptedPages → PageModel
model s = record { pages = vec_items s.pages; powered = s.powered }
