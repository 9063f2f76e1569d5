-- The windows of sources as windows of the whole output.
use Rattle.std.specs.Prelude.{ℕ, ◌+◌, List, [], ◌∷◌, ◌++◌, map}
use Rattle.reloc_apply.specs.declared.window.Window.{Window}

-- The window so many bytes later.
abbrev pub moved_window : ℕ → Window → Window
moved_window n w = record w { place = n + w.place }

-- The windows of each source, as much later as the source stands, one source behind another.
abbrev pub moved_windows : List ℕ → List (List Window) → List Window
moved_windows [] wss = []
moved_windows (k ∷ ks) [] = []
moved_windows (k ∷ ks) (ws ∷ wss) = map {A = Window} {B = Window} (moved_window k) ws ++ moved_windows ks wss
