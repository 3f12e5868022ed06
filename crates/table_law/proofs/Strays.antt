-- A table that tells the states of other instructions leads a walk astray.
use Rattle.std.proofs.Common.{◌≡◌, ℕ, ◌<◌, [], ◌∷◌, List, map, refl, ap, arith, lit<}
use Rattle.state_defs.specs.Region.{word_at}
use Rattle.machine_defs.specs.Machine.{frames}
use Rattle.unwinding_law.specs.Worked.{worked, base, after_push}
use Rattle.table_defs.specs.declared.frame.Frame.{Frame}
use Rattle.table_defs.specs.declared.frame.Stop.TheVariants.{Outside}
use Rattle.table_defs.specs.Walk.{Memory, Walks, outside, goes_on}
use Rattle.table_defs.specs.WalkLaws.{WalkIsDetermined}
use Rattle.table_defs.specs.Walks.{registers_of, walk_frame}
use Rattle.table_law.specs.WorkedWalks.{ranges, stray_rows, StraysWorked}

-- the words of the stack after the push
abbrev memory : Memory
memory = λ address. word_at after_push.core.memory address

-- the frame that the walk gives instead
abbrev stray : Frame
stray = record { ra = 0; cfa = 0x8008; bp = 0 }

-- it gives no other
walks_astray : Walks stray_rows ranges memory (registers_of worked base after_push) (stray ∷ []) Outside
walks_astray = goes_on refl refl refl (outside refl)

-- so it doesn't give the machine's
pub strays : WalkIsDetermined → StraysWorked
strays one (stop, walk, end) =
    let e : map walk_frame (frames after_push) ≡ stray ∷ [] = (one stray_rows ranges memory (registers_of worked base after_push) (map walk_frame (frames after_push)) (stray ∷ []) stop Outside walk walks_astray).0 in
    different 0x8010 0x8008 (ap (map (λ (f : Frame). f.cfa)) e) (lit< tt)
  where
    different : (x y : ℕ) → ◌≡◌ {A = List ℕ} (x ∷ []) (y ∷ []) → y < x → ⊥
    different x y e h = let k : x ≡ y = cc in omega arith
