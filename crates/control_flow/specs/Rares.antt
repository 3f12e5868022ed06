-- What few points of an object have otherwise than most.
use Rattle.std.specs.Prelude.{◌≡◌, ◌<◌, ◌≤◌, ℕ, List, Option, None, Some, length, slice_get}
use Rattle.flow_defs.specs.Coded.{Coded}
use Rattle.alternatives.specs.Points.{address_of_point}
use Rattle.flow_defs.specs.Code.{alternatives_of, point_at}
use Rattle.flow_defs.specs.Program.{previous_of}
use Rattle.program_graph.specs.Tells.{address_by, previous_by, variant_by}
use Rattle.program_graph.specs.declared.parts.Hinted.{Hinted}
use Rattle.program_graph.specs.declared.parts.Rare.{Rare}
use Rattle.control_flow.specs.Hinted.{IsHinted, IsUnhinted}
use Rattle.control_flow.specs.Numbers.{AreNumbered}
use Rattle.control_flow.specs.declared.rares.TheConstants.{USUAL}

-- what point q has, where it is told where what points with a hint have stands for it
pub record IsRare (o : Coded) (q : ℕ) (known : Option ℕ) (x : Rare) : Type 0 where
  pub variant : (point_at o q).variant ≡ variant_by x.replaced
  pub address : address_of_point (alternatives_of o) (point_at o q) ≡ address_by x.replaced (point_at o q).place
  pub previous : previous_of o (point_at o q) ≡ previous_by q x.previous
  pub hinted : known ≡ x.hinted

-- point q has a hint, and what it has stands at this number, where there is one; else it has none
pub record IsKnown (o : Coded) (restores : List ℕ) (hinted : List Hinted) (q : ℕ) (known : Option ℕ) : Type 0 where
  pub inside : (k : ℕ) → known ≡ Some k → k < length hinted
  pub own : (k : ℕ) (x : Hinted) → known ≡ Some k → slice_get hinted k ≡ Some x → IsHinted o restores q x
  pub unhinted : known ≡ None → IsUnhinted o q

-- what point q has, where points with a hint and RESTOREs are listed so
pub record IsRareOf (o : Coded) (restores : List ℕ) (hinted : List Hinted) (q : ℕ) (x : Rare) : Type 0 where
  pub rare : IsRare o q x.hinted x
  pub known : IsKnown o restores hinted q x.hinted

-- what the first n points have, with the numbers by which it is found; most have the first
pub record AreRares (o : Coded) (restores : List ℕ) (rares : List Rare) (hinted : List Hinted) (numbers : List ℕ) (n : ℕ) : Type 0 where
  pub numbered : AreNumbered (IsRareOf o restores hinted) rares numbers n
  pub usual : slice_get rares 0 ≡ Some USUAL
  pub short : length hinted ≤ n
  pub ranges : (k : ℕ) (x : Hinted) → slice_get hinted k ≡ Some x → (x.restores_from ≤ x.restores_to) × (x.restores_to ≤ length restores)
