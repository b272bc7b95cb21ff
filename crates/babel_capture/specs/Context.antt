-- What the blocks before a block of a capture say about it.
use Rattle.std.specs.Prelude.{ℕ, Bool, List, Option}
use Rattle.babel_capture.specs.declared.layout.Layout.{Layout}
use Rattle.babel_capture.specs.declared.layout.Interface.{Interface}
use Rattle.babel_capture.specs.declared.window.Window.{Window}

-- How many octets of the capture are read at most, what its blocks are, and its interfaces so far,
-- of which those of this section begin at `first`; which packets are read by their times, and when
-- the first one came, where times are asked for. Interfaces are numbered from 0 in the order of
-- their descriptions, over all sections. `to_cut` is that of `Extent`.
pub record Before : Type 0 where
  pub limit : ℕ
  pub layout : Layout
  pub first : ℕ
  pub interfaces : List Interface
  pub window : Window
  pub start : Option ℕ
  pub to_cut : Bool
