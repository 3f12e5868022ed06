-- A search for the ways in which control comes to points.
use Rattle.std.specs.Prelude.{◌≡◌, ◌≢◌, ◌⊎◌, ◌↔◌, ℕ, ◌+◌, ◌<◌, Bool, true, false, List, None, Contains, length, sum_by}
use Rattle.machine_defs.specs.declared.flow.Edge.{Edge}
use Rattle.machine_defs.specs.declared.flow.EdgeKind.TheVariants.{Sibling}
use Rattle.machine_defs.specs.Program.{Program}
use Rattle.machine_defs.specs.Kept.{edges_of, is_at_entry}
use Rattle.machine_defs.specs.Ways.{is_call_hint}
use Rattle.machine_defs.specs.Allowances.{Allowances, is_safe}
use Rattle.machine_defs.specs.Access.{Reached, access_along}
use Rattle.program_check.specs.declared.access_search.Search.{Search}
use Rattle.program_check.specs.declared.access_search.Visit.{Visit}
use Rattle.program_check.specs.declared.access_ways.Ways.{Ways}
use Rattle.program_check.specs.Ways.{comes, ways_at, ways_left}

-- control at a point
abbrev pub visit : ℕ → Bool → Bool → Visit
visit q access home = record { point = q; access = access; home = home }

-- it comes there, and it is found that it does
abbrev pub IsReached : Program → Allowances → Visit → Type 0
IsReached p allowed v = Reached p allowed v.point v.access v.home

abbrev pub IsFound : List Ways → Visit → Type 0
IsFound ways v = comes (ways_at ways v.point) v.access v.home ≡ true

-- these are all the ways in which control comes to points
abbrev pub AreReached : Program → Allowances → List Ways → Type 0
AreReached p allowed ways = (v : Visit) → IsFound ways v ↔ IsReached p allowed v

-- how much is still to be found or followed
abbrev pub work_left : Search → ℕ
work_left s = sum_by ways_left s.ways.items + length s.pending.items

-- there are ways for so many points, and what is to be followed is at these
pub record HasShape (points : ℕ) (s : Search) : Type 0 where
  pub long : length s.ways.items ≡ points
  pub pending : (v : Visit) → Contains s.pending.items v → v.point < points

-- The search finds control at a point. Where that is new it is to be followed.
pub record Finds (old new : Search) (v : Visit) : Type 0 where
  pub long : length new.ways.items ≡ length old.ways.items
  pub work : work_left new ≡ work_left old
  pub found : (u : Visit) → IsFound new.ways.items u ↔ (IsFound old.ways.items u ⊎ u ≡ v)
  pub pending : (u : Visit) → Contains new.pending.items u → Contains old.pending.items u ⊎ u ≡ v
  pub still : (u : Visit) → Contains old.pending.items u → Contains new.pending.items u
  pub waits : IsFound old.ways.items v ⊎ Contains new.pending.items v

-- The search has gone on: what was found still is.
pub record GoesOn (points : ℕ) (old new : Search) : Type 0 where
  pub shape : HasShape points new
  pub work : work_left new ≡ work_left old
  pub found : (v : Visit) → IsFound old.ways.items v → IsFound new.ways.items v

-- control at the end of an edge
abbrev pub along : Program → Visit → Edge → Visit
along p v e = record { point = e.to; access = access_along e.kind (p.insn v.point).op v.access; home = v.home }

-- control is followed along an edge, unless that leaves the function, or leads to code that a processor with SMAP doesn't have
abbrev pub IsFollowedAlong : Program → Allowances → List Ways → Visit → Edge → Type 0
IsFollowedAlong p allowed ways v e = e.kind ≢ Sibling → allowed.lacks_smap e.to ≡ false → IsFound ways (along p v e)

abbrev pub IsFollowed : Program → Allowances → List Ways → Visit → Type 0
IsFollowed p allowed ways v = (e : Edge) → Contains (edges_of p v.point) e → IsFollowedAlong p allowed ways v e

-- What is found and what is to be followed is reached; and what is found is followed, or to be followed.
pub record IsSearch (p : Program) (allowed : Allowances) (ways : List Ways) (pending : List Visit) : Type 0 where
  pub found : (v : Visit) → IsFound ways v → IsReached p allowed v
  pub waiting : (v : Visit) → Contains pending v → IsReached p allowed v
  pub followed : (v : Visit) → IsFound ways v → Contains pending v ⊎ IsFollowed p allowed ways v

-- Control is found that begins at a point: at an entry; or in code of no function at a point at whose own place a hint stands, or at
-- which one counts that a call may come to.
pub record IsStarted (p : Program) (allowed : Allowances) (ways : List Ways) (q : ℕ) : Type 0 where
  pub entered : is_at_entry p q ≡ true → allowed.lacks_smap q ≡ false → IsFound ways (visit q (is_safe p allowed q) (is_safe p allowed q))
  pub hinted : p.own_hint q ≡ true → p.owner q ≡ None → IsFound ways (visit q false false)
  pub called : is_call_hint (p.hint q) ≡ true → p.owner q ≡ None → allowed.lacks_smap q ≡ false → IsFound ways (visit q false false)
