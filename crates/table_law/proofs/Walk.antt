-- The walk law: from each state of each run the walk gives the listed frames.
use Rattle.std.proofs.Common.{◌≡◌, ℕ, ◌≤◌, Bool, true, List, [], ◌∷◌, Option, Some, None, map, flat_map, All, refl, sym, ap, subst, inl, inr}
use Rattle.std.specs.Prelude.{IfSome, ℤ}
use Rattle.std.proofs.lemmas.List.Elements.{All-head, All-tail}
use Rattle.ot_base.specs.declared.row.PlacedRow.{PlacedRow}
use Rattle.state_defs.specs.declared.state.EndKind.{EndKind}
use Rattle.state_defs.specs.declared.state.EndKind.TheVariants as kind
use Rattle.state_defs.specs.declared.state.State.{State}
use Rattle.state_defs.specs.declared.state.State.TheVariants.{Live, Ended, Regs}
use Rattle.state_defs.specs.Region.{Region, hi_of, IsRegion, word_at, Holds}
use Rattle.state_defs.specs.Frame.{Frame, Protected, protected, listed, end_of, AreKept}
use Rattle.state_defs.specs.State.{ended_by, Means, MeansTop}
use Rattle.state_defs.specs.Row.{row_of, unfit_offset}
use Rattle.state_defs.specs.Sound.{MoveIsConsistent}
use Rattle.machine_defs.specs.Program.{Program, IsPoint}
use Rattle.machine_defs.specs.Machine.{Bases, Machine, Wrecked, At, walked, point_address}
use Rattle.machine_defs.specs.Run.{Run, started, stepped, StaysInStack}
use Rattle.machine_defs.specs.Kept.{Kept}
use Rattle.machine_defs.specs.Broken.{IsAccepted, unfit}
use Rattle.machine_defs.specs.IsProgram.{IsProgram, IsInText}
use Rattle.machine_defs.specs.Law.{IsCallKept, IsInnerFrame, IsOutermostFrame, AreFrames, outermost, inner, IsInOrder, UnwindingLaw}
use Rattle.table_defs.specs.declared.range.Range.{Range}
use Rattle.table_defs.specs.declared.frame.Stop.{Stop}
use Rattle.table_defs.specs.declared.frame.Stop.TheVariants.{Outside, EndOfStack, Undefined, NoRow}
use Rattle.table_defs.specs.Placement.{is_inside}
use Rattle.table_defs.specs.Lookup.{find_row}
use Rattle.table_defs.specs.Walk.{WalksFrom, outside, no_row, stops, goes_on, lookup_address}
use Rattle.unwinding_law.proofs.Lists.{all_right}
use Rattle.unwinding_law.proofs.KeptStates.{kept_consistent}
use Rattle.table_defs.specs.Placed.{IsPlacedBy}
use Rattle.table_defs.specs.Visited.{IsVisited}
use Rattle.table_defs.specs.Tells.{TellsState, TellsStates}
use Rattle.table_defs.specs.Walks.{walk_frame, StopsAs, WalksToFrames}
use Rattle.table_defs.specs.TableLaws.{RangesArePlacement, WalkLaw}
use Rattle.table_law.proofs.VisitedPlaces.{calls, AreVisited, visited, AreCallsVisited, run_calls}
use Rattle.table_law.proofs.StateRows.{MeansFrame, row_gives, signal_tells}
use Rattle.table_law.proofs.PointLookUp.{LooksAt, inside, not_inside, looks_back, told_there, live_row}

-- the offsets of a kept state fit
kept_fits : (p : Program) (q : ℕ) (state : State) → IsAccepted p → Kept p q state → unfit_offset state ≡ None
kept_fits p q state acc kept = go (unfit_offset state) refl
  where
    go : (o : Option ℤ) → unfit_offset state ≡ o → unfit_offset state ≡ None
    go None e = e
    go (Some a) e = absurd (acc _ _ _ _ (unfit q state a kept e))

-- a state that isn't ended means the top frame
means_top : (state : State) (rsp rbp : ℕ) (f : Frame) (fs : List Frame) → ended_by state ≡ None → MeansTop state rsp rbp (f ∷ fs) → Means state rsp rbp f
means_top (Live depth pointer home) rsp rbp f fs e h = h
means_top (Ended kind) rsp rbp f fs e h = tt
means_top (Regs full depth) rsp rbp f fs e h = h

-- and there is one
has_frame : (state : State) (rsp rbp : ℕ) → ended_by state ≡ None → MeansTop state rsp rbp [] → ⊥
has_frame (Live depth pointer home) rsp rbp e h = h
has_frame (Ended kind) rsp rbp e h = cc
has_frame (Regs full depth) rsp rbp e h = h

module _ (keeps : MoveIsConsistent) (p : Program) (bases : Bases) (rows : List PlacedRow) (ranges : List Range) (is : IsProgram p) (laid : IsInText p) (placed : IsPlacedBy p bases ranges) (acc : IsAccepted p) (tells : TellsStates p bases rows ranges) (region : Region) (is_region : IsRegion region) where
  -- What is known of a point, its state, rsp and rbp there, and the frames below: those of the machine
  -- where it stands, or of the call of a frame, with that frame's cfa and bp.
  record Stands (q : ℕ) (state : State) (rsp rbp : ℕ) (frames : List Frame) : Type 0 where
    point : IsPoint p q
    seen : IsVisited p bases q
    kept : Kept p q state
    means : MeansTop state rsp rbp frames
    slots : AreKept rsp region (listed (ended_by state) frames)
    in_order : AreFrames p bases q frames
    below_hi : All (λ f. f.cfa ≤ hi_of region) frames
    called : AreVisited p bases (calls frames)

  -- the walk from there gives the listed frames, and stops where they end
  abbrev Walked : Bool → ℕ → ℕ → ℕ → Option EndKind → List Frame → Type 0
  Walked next ip rsp rbp end frames =
      (stop : Stop)
      × WalksFrom rows ranges (λ address. word_at region address) next (record { ip = ip; sp = rsp; bp = rbp }) (map walk_frame (map walked (listed end frames))) stop
      × StopsAs (end_of end frames) stop

  -- so it does from every such point
  abbrev WalksAt : List Frame → Type 0
  WalksAt frames = (q : ℕ) (state : State) (next : Bool) (ip rsp rbp : ℕ) → Stands q state rsp rbp frames → LooksAt p bases next ip q → Walked next ip rsp rbp (ended_by state) frames

  -- where the stack has ended the walk stops
  ended : (end : EndKind) (frames : List Frame) (next : Bool) (ip rsp rbp : ℕ) → is_inside ranges (lookup_address next ip) ≡ true → TellsState (Ended end) (find_row rows ranges (lookup_address next ip)) → Walked next ip rsp rbp (Some end) frames
  ended kind.Undefined frames next ip rsp rbp in_text (inl e) = (Undefined, stops in_text e refl, inl refl)
  ended kind.Undefined frames next ip rsp rbp in_text (inr (e, none)) = (NoRow, no_row in_text none, inr refl)
  ended kind.EndOfStack frames next ip rsp rbp in_text (inl e) = (EndOfStack, stops in_text e refl, refl)
  ended kind.EndOfStack frames next ip rsp rbp in_text (inr (e, none)) = absurd (let k : ⊥ = cc in k)

  -- Where the stack hasn't ended the row gives the top frame, and the walk goes on from it.
  module _ (f : Frame) (fs : List Frame) (ih : WalksAt fs) (q : ℕ) (state : State) (rsp rbp : ℕ) (live : ended_by state ≡ None) (s : Stands q state rsp rbp (f ∷ fs)) where
    -- the slots of the top frame and of those below it
    slots_here : AreKept rsp region (f ∷ listed f.ended_caller fs)
    slots_here = subst (λ (x : Option EndKind). AreKept rsp region (listed x (f ∷ fs))) live s.slots

    -- the state means it
    means : Means state rsp rbp f
    means = means_top state rsp rbp f fs live s.means

    -- and all that its row needs holds
    top_means : MeansFrame state rsp rbp region f (listed f.ended_caller fs)
    top_means = record {
      live = live;
      consistent = kept_consistent p is keeps q state s.point s.kept;
      fit = kept_fits p q state acc s.kept;
      is_region = is_region;
      top = All-head (λ (x : Frame). x.cfa ≤ hi_of region) f fs s.below_hi;
      kept = slots_here;
      means = means;
    }

    -- the outermost frame goes back to code outside
    goes_out : IsOutermostFrame p bases f fs → Walked (row_of state).signal f.ra f.cfa f.bp f.ended_caller fs
    goes_out h =
        let out = not_inside p bases ranges placed (row_of state).signal _ f.ra (signal_tells state rsp rbp f live means) h.goes_out in
        let last : Walked (row_of state).signal f.ra f.cfa f.bp None [] = (Outside, outside out, refl) in
        subst (λ (x : List Frame). Walked (row_of state).signal f.ra f.cfa f.bp f.ended_caller x) (sym h.last) (subst (λ (x : Option EndKind). Walked (row_of state).signal f.ra f.cfa f.bp x []) (sym h.ended) last)

    -- any other to its call, or to the interrupted point
    goes_back : (call : ℕ) → f.call ≡ Some call → IsInnerFrame p bases q call f fs → AreFrames p bases call fs → Walked (row_of state).signal f.ra f.cfa f.bp f.ended_caller fs
    goes_back call e h frames =
        let k : IsCallKept p call f fs = h.call_kept in
        let slots : AreKept f.cfa region (listed f.ended_caller fs) = record { above = k.slots; hold = all_right (λ (x : Protected). Holds region x.at x.value) (protected f) (flat_map protected (listed f.ended_caller fs)) slots_here.hold } in
        let below : Stands call k.state f.cfa f.bp fs = record {
          point = h.point;
          seen = subst (λ (x : Option ℕ). IfSome x (IsVisited p bases)) e (All-head (λ (x : Option ℕ). IfSome x (IsVisited p bases)) f.call (calls fs) s.called);
          kept = k.kept;
          means = k.means;
          slots = subst (λ (x : Option EndKind). AreKept f.cfa region (listed x fs)) k.ended slots;
          in_order = frames;
          below_hi = All-tail (λ (x : Frame). x.cfa ≤ hi_of region) f fs s.below_hi;
          called = All-tail (λ (x : Option ℕ). IfSome x (IsVisited p bases)) f.call (calls fs) s.called;
        } in
        let looks = looks_back p bases call (row_of state).signal _ f.ra (signal_tells state rsp rbp f live means) h.goes_back in
        subst (λ (x : Option EndKind). Walked (row_of state).signal f.ra f.cfa f.bp x fs) (sym k.ended) (ih call k.state (row_of state).signal f.ra f.cfa f.bp below looks)

    -- it gives the frames below
    rest : AreFrames p bases q (f ∷ fs) → Walked (row_of state).signal f.ra f.cfa f.bp f.ended_caller fs
    rest (outermost at g others none h) = goes_out h
    rest (inner at call g others called h frames) = goes_back call called h frames

    -- so it gives all
    top_frame : (next : Bool) (ip : ℕ) → LooksAt p bases next ip q → Walked next ip rsp rbp None (f ∷ fs)
    top_frame next ip looks =
        let found = live_row state (find_row rows ranges (lookup_address next ip)) live (told_there p bases rows ranges q state next ip (tells q state s.seen s.kept) looks) in
        let r = rest s.in_order in
        (r.0, goes_on (inside p bases ranges placed laid next ip q s.point looks) found (row_gives state ip rsp rbp region f (listed f.ended_caller fs) top_means) r.1, r.2)

  -- whether the stack has ended there or not
  walks_from : (frames : List Frame) (q : ℕ) (state : State) (end : Option EndKind) (next : Bool) (ip rsp rbp : ℕ) → ended_by state ≡ end
      → (ended_by state ≡ None → Walked next ip rsp rbp None frames)
      → Stands q state rsp rbp frames → LooksAt p bases next ip q → Walked next ip rsp rbp end frames
  walks_from frames q state None next ip rsp rbp e live s looks = live e
  walks_from frames q state (Some end) next ip rsp rbp e live s looks =
      let is_ended : state ≡ Ended end = ended_state state end e in
      let told = told_there p bases rows ranges q state next ip (tells q state s.seen s.kept) looks in
      ended end frames next ip rsp rbp (inside p bases ranges placed laid next ip q s.point looks) (subst (λ (x : State). TellsState x (find_row rows ranges (lookup_address next ip))) is_ended told)
    where
      ended_state : (x : State) (k : EndKind) → ended_by x ≡ Some k → x ≡ Ended k
      ended_state (Live depth pointer home) k e = absurd (let z : ⊥ = cc in z)
      ended_state (Ended j) k e = let z : j ≡ k = cc in ap Ended z
      ended_state (Regs full depth) k e = absurd (let z : ⊥ = cc in z)

  -- by induction on the frames
  walks : (frames : List Frame) → WalksAt frames
  walks [] q state next ip rsp rbp s looks = walks_from [] q state (ended_by state) next ip rsp rbp refl (λ live. absurd (has_frame state rsp rbp live s.means)) s looks
  walks (f ∷ fs) q state next ip rsp rbp s looks = walks_from (f ∷ fs) q state (ended_by state) next ip rsp rbp refl (λ live. top_frame f fs (walks fs) q state rsp rbp live s next ip looks) s looks

-- rsp of a run stays in the stack
stays : (p : Program) (bases : Bases) (m : Machine) → Run p bases m → StaysInStack m
stays p bases m (started s start stack) = stack
stays p bases m (stepped k n r step after) = after

-- the point of a state, with its kept state, rsp, rbp and frames, is one
pub walk_law : UnwindingLaw → MoveIsConsistent → RangesArePlacement → WalkLaw
walk_law unwinds keeps placement p bases rows ranges is laid placed acc tells m run = go m run (unwinds p bases is (placement p bases ranges placed) acc m run) (stays p bases m run) (run_calls p bases m run)
  where
    go : (m : Machine) → Run p bases m → IsInOrder p bases m → StaysInStack m → AreCallsVisited p bases m → WalksToFrames p rows bases ranges m
    go Wrecked run o stack called = o
    go (At s) run o stack called =
        let r = o.0 in
        let here : Stands keeps p bases rows ranges is laid placed acc tells s.core.region stack.region s.point r.state s.core.rsp s.core.rbp s.core.shadow = record {
          point = r.point;
          seen = visited p bases s run;
          kept = r.kept;
          means = r.means;
          slots = subst (λ (x : Option EndKind). AreKept s.core.rsp s.core.region (listed x s.core.shadow)) r.ended r.slots;
          in_order = o.1.frames;
          below_hi = o.1.below_hi;
          called = called;
        } in
        let w = walks keeps p bases rows ranges is laid placed acc tells s.core.region stack.region s.core.shadow s.point r.state true (point_address p bases s.point) s.core.rsp s.core.rbp here refl in
        subst (λ (x : Option EndKind). Walked keeps p bases rows ranges is laid placed acc tells s.core.region stack.region true (point_address p bases s.point) s.core.rsp s.core.rbp x s.core.shadow) (sym r.ended) w
