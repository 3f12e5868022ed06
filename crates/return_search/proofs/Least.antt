-- The least set of points from which a return may come, and a search that is sound and closed.
use Rattle.std.proofs.Common.{◌≡◌, ◌≢◌, ℕ, zero, suc, ◌+◌, ◌<◌, inl, inr, Bool, true, false, not, ◌&&◌, ◌||◌, cond, List, [], ◌∷◌, Some, Contains, length, get_or, filter, refl, sym, ap, ◌∙◌, subst, arith}
use Rattle.std.specs.Prelude.{slice_get}
use Rattle.std.specs.List.{list_any}
use Rattle.std.proofs.lemmas.Bool.{and_from, and_parts, not-true}
use Rattle.std.proofs.lemmas.Option.{slice_get-get_or}
use Rattle.std.proofs.lemmas.List.Elements.{All-contains, Contains-push, filter_agree}
use Rattle.std.proofs.lemmas.List.Folds.{Any-from_list_any, list_any-from_Any}
use Rattle.machine_defs.specs.declared.flow.Edge.{Edge}
use Rattle.machine_defs.specs.declared.flow.EdgeKind.{EdgeKind}
use Rattle.machine_defs.specs.declared.flow.EdgeKind.TheVariants.{Next, Taken, Fixup, Table, Sibling}
use Rattle.machine_defs.specs.declared.flow.Role.{Role}
use Rattle.machine_defs.specs.declared.flow.Role.TheVariants.{Plain, CallIn, CallEither, CallOut, CallAny, Return, JumpOut, JumpAny, Switch}
use Rattle.machine_defs.specs.Program.{Program, IsPoint, entry_points, is_call, edge}
use Rattle.machine_defs.specs.MayReturn.{MayReturn, calls_outside, is_listed, is_listed_by, may_return_outright, code_may_return, target_may_return}
use Rattle.machine_defs.specs.IsProgram.{IsProgram}
use Rattle.machine_defs.specs.Kept.{can_go}
use Rattle.return_search.specs.declared.searched_flow.Exit.{Exit}
use Rattle.return_search.specs.declared.searched_flow.Exit.TheVariants.{Leaves, Calls, CallsOut, CallsNever, Passes}
use Rattle.return_search.specs.declared.searched_flow.Flow.{Flow}
use Rattle.return_search.specs.Told.{TellsFlow, SharesEdges, call_exit, callee_at, exit_by, exit_of, exit_at, edges_from, start_of}
use Rattle.return_search.specs.Shape.{HasShape, points_of}
use Rattle.return_search.specs.Backward.{edge_at, IsEdgeOf}
use Rattle.return_search.specs.Search.{is_set, target_returns, is_calling, carries, AreSound, AreClosed}
use Rattle.return_search.specs.Stays.{stays}
use Rattle.return_search.proofs.Ranges.{in_range, from_range, ends_within}

-- whether a return is carried back along a Next
abbrev over_next : List Bool → Exit → Bool → Bool
over_next known exit dead = target_returns known exit && not (is_calling exit && dead)

-- a call that is neither marked nor listed
call_exit_of : (m b : Bool) (x : Exit) → m ≡ false → b ≡ false → call_exit m b x ≡ x
call_exit_of true b x unmarked unlisted = absurd (let z : ⊥ = cc in z)
call_exit_of false true x unmarked unlisted = absurd (let z : ⊥ = cc in z)
call_exit_of false false x unmarked unlisted = refl

-- a call that may go outside and isn't listed may come back, marked or not
outside_returns : (m c b : Bool) → c ≡ true → b ≡ false → m || (c && not b) ≡ true
outside_returns true c b outside unlisted = refl
outside_returns false true true outside unlisted = absurd (let z : ⊥ = cc in z)
outside_returns false true false outside unlisted = refl
outside_returns false false b outside unlisted = absurd (let z : ⊥ = cc in z)

-- what stands in a list of one edge
only : (e f : Edge) → Contains (e ∷ []) f → e ≡ f
only e f (zero, l, is) = is
only e f (suc k, l, is) = absurd (omega (arith, l))

-- control that comes to an entry stands at points
arrival : (p : Program) → IsProgram p → (entry first : ℕ) → Contains (entry_points p entry) first → IsPoint p first
arrival p is entry first c = is.arrivals (p.place entry) first c

module _ (p : Program) (flow : Flow) (tells : TellsFlow p flow) (shape : HasShape flow) where
  point_in : (q : ℕ) → IsPoint p q → q < points_of flow
  point_in q point = omega (arith, point, tells.count)

  point_of : (q : ℕ) → q < points_of flow → IsPoint p q
  point_of q inside = omega (arith, inside, tells.count)

  -- what is carried along a Next, by the role
  next_is : (known : List Bool) (q : ℕ) → IsPoint p q → over_next known (exit_of p q) (p.dead_end q) ≡ carries flow known q Next
  next_is known q point = ap (λ (x : Exit). over_next known x (p.dead_end q)) (tells.exits q point) ∙ ap (over_next known (exit_at flow q)) (tells.dead_ends q point)

  -- an edge by its number stands in the flow, and the other way round
  stands : (q i : ℕ) → IsEdgeOf flow q i → Contains (edges_from flow q) (edge_at flow i)
  stands q i is = in_range flow.edges.items (start_of flow q) (start_of flow (q + 1)) (ends_within flow shape q is.point) i (edge 0 Next) is.from is.to

  edge_of : (q : ℕ) (e : Edge) → IsPoint p q → Contains (edges_from flow q) e → (i : ℕ) × IsEdgeOf flow q i × (edge_at flow i ≡ e)
  edge_of q e point c =
      let r = from_range flow.edges.items (start_of flow q) (start_of flow (q + 1)) (ends_within flow shape q (point_in q point)) e (edge 0 Next) c in
      (r.0, record { point = point_in q point; from = r.1; to = r.2 }, r.3)

  -- the edges of a point that shares them are edges of a table, and the one that stands for them leads to the other point
  is_table : (q r : ℕ) (e : Edge) → SharesEdges p flow q r → Contains (p.goes r) e → e.kind ≡ Table
  is_table q r e shares c = All-contains (λ (f : Edge). f.kind ≡ Table) (p.goes r) e shares.tables c

  leads : (q r i : ℕ) → SharesEdges p flow q r → IsEdgeOf flow q i → (edge_at flow i).to ≡ r
  leads q r i shares is = sym (ap (λ (f : Edge). f.to) (only (edge r Table) (edge_at flow i) (subst (λ (es : List Edge). Contains es (edge_at flow i)) shares.listed (stands q i is))))

  -- a return comes from a point that shares the edges of another from which one comes
  shared_edge : (q r : ℕ) (e : Edge) → SharesEdges p flow q r → Contains (p.goes r) e → MayReturn p e.to → MayReturn p q
  shared_edge q r e shares c m =
      let table : e.kind ≡ Table = is_table q r e shares c in
      MayReturn.branches q e (λ next. let z : ⊥ = cc in z) (subst (λ (es : List Edge). Contains es e) (sym shares.same) c) m

  not_leaving : (q r : ℕ) → SharesEdges p flow q r → exit_of p r ≡ Leaves → ⊥
  not_leaving q r shares leaves = let passes : exit_of p r ≡ Passes = tells.exits r shares.point ∙ shares.passes in let z : ⊥ = cc in z

  shared_sound : (q r : ℕ) → SharesEdges p flow q r → MayReturn p r → MayReturn p q
  shared_sound q _ shares (MayReturn.returns r is) = absurd (not_leaving q r shares (ap (exit_by p r) is))
  shared_sound q _ shares (MayReturn.jumps_anywhere r is) = absurd (not_leaving q r shares (ap (exit_by p r) is))
  shared_sound q _ shares (MayReturn.jumps_out r sym is returns) = absurd (not_leaving q r shares (ap (exit_by p r) is ∙ ap (λ (b : Bool). cond b Passes Leaves) returns))
  shared_sound q _ shares (MayReturn.goes_on r e plain c m) = shared_edge q r e shares c m
  shared_sound q _ shares (MayReturn.branches r e other c m) = shared_edge q r e shares c m
  shared_sound q _ shares (MayReturn.comes_back r to out alive c m) = shared_edge q r (edge to Next) shares c m
  shared_sound q _ shares (MayReturn.comes_back_in r to entry first is unlisted alive arrived inside c m) = shared_edge q r (edge to Next) shares c m

  -- a return comes from each point that leaves
  pub leaving_sound : (q : ℕ) → exit_at flow q ≡ Leaves → q < points_of flow → MayReturn p q
  leaving_sound q leaves inside = by_role (p.role q) refl (tells.exits q (point_of q inside) ∙ leaves)
    where
      by_jump : (sym : ℕ) → p.role q ≡ JumpOut sym → (b : Bool) → p.never_returns sym ≡ b → cond b Passes Leaves ≡ Leaves → MayReturn p q
      by_jump sym is true e h = absurd (let z : ⊥ = cc in z)
      by_jump sym is false e h = MayReturn.jumps_out q sym is e

      by_call : (m b : Bool) → call_exit m b CallsOut ≡ Leaves → MayReturn p q
      by_call true b h = absurd (let z : ⊥ = cc in z)
      by_call false true h = absurd (let z : ⊥ = cc in z)
      by_call false false h = absurd (let z : ⊥ = cc in z)

      by_entry : (entry : ℕ) (m b : Bool) → call_exit m b (Calls entry) ≡ Leaves → MayReturn p q
      by_entry entry true b h = absurd (let z : ⊥ = cc in z)
      by_entry entry false true h = absurd (let z : ⊥ = cc in z)
      by_entry entry false false h = absurd (let z : ⊥ = cc in z)

      by_role : (r : Role) → p.role q ≡ r → exit_by p q r ≡ Leaves → MayReturn p q
      by_role Plain is h = absurd (let z : ⊥ = cc in z)
      by_role (CallIn entry) is h = by_entry entry (p.marked_call q) (is_listed p q) h
      by_role (CallEither entry sym) is h = by_call (p.marked_call q) (is_listed p q) h
      by_role (CallOut sym) is h = by_call (p.marked_call q) (is_listed p q) h
      by_role CallAny is h = absurd (let z : ⊥ = cc in z)
      by_role Return is h = MayReturn.returns q is
      by_role (JumpOut sym) is h = by_jump sym is (p.never_returns sym) refl h
      by_role JumpAny is h = MayReturn.jumps_anywhere q is
      by_role Switch is h = absurd (let z : ⊥ = cc in z)

  -- a return that is carried along an edge may come from its point, where the flow has the point's own edges
  own_carried : (found known : List Bool) → AreSound flow found known → (q i : ℕ) → p.goes q ≡ edges_from flow q → IsEdgeOf flow q i → carries flow known q (edge_at flow i).kind ≡ true → MayReturn p (edge_at flow i).to → MayReturn p q
  own_carried found known sound q i own is h m = by_kind (edge_at flow i).to (edge_at flow i).kind (subst (λ (es : List Edge). Contains es (edge_at flow i)) (sym own) (stands q i is)) h m
    where
      point : IsPoint p q
      point = point_of q is.point

      alive : (d : Bool) → not (true && d) ≡ true → d ≡ false
      alive d h = not-true d h

      -- a call that may come back, whatever the program does
      outright : (r : Role) → p.role q ≡ r → is_call r ≡ true → p.marked_call q || (calls_outside r && not (is_listed p q)) ≡ true → may_return_outright p q ≡ true
      outright r is call h = subst (λ (x : Role). is_call x && (p.marked_call q || (calls_outside x && not (is_listed p q))) ≡ true) (sym is) (and_from (is_call r) (p.marked_call q || (calls_outside r && not (is_listed p q))) call h)

      -- a call that may go outside
      by_outside : (to : ℕ) (r : Role) → p.role q ≡ r → is_call r ≡ true → calls_outside r ≡ true → (m b : Bool) → p.marked_call q ≡ m → is_listed p q ≡ b → over_next known (call_exit m b CallsOut) (p.dead_end q) ≡ true → Contains (p.goes q) (edge to Next) → MayReturn p to → MayReturn p q
      by_outside to r is call outside true b marked e h c m = MayReturn.comes_back q to (outright r is call (rw marked refl)) (alive (p.dead_end q) h) c m
      by_outside to r is call outside false true marked e h c m = absurd (let z : ⊥ = cc in z)
      by_outside to r is call outside false false marked e h c m = MayReturn.comes_back q to (outright r is call (outside_returns (p.marked_call q) (calls_outside r) (is_listed p q) outside e)) (alive (p.dead_end q) h) c m

      -- and one that doesn't
      by_entry : (to entry : ℕ) → p.role q ≡ CallIn entry → (m b : Bool) → p.marked_call q ≡ m → is_listed p q ≡ b → over_next known (call_exit m b (Calls entry)) (p.dead_end q) ≡ true → Contains (p.goes q) (edge to Next) → MayReturn p to → MayReturn p q
      by_entry to entry is true b marked e h c m = MayReturn.comes_back q to (outright (CallIn entry) is refl (rw marked refl)) (alive (p.dead_end q) h) c m
      by_entry to entry is false true marked e h c m = absurd (let z : ⊥ = cc in z)
      by_entry to entry is false false marked e h c m =
          let parts = and_parts (is_set known entry) (not (true && p.dead_end q)) h in
          let first = sound.entries p tells q entry point is parts.0 in
          MayReturn.comes_back_in q to entry first.0 is e (alive (p.dead_end q) parts.1) first.1 first.2 c m

      any_listed : is_listed_by p (p.names q) (p.role q) ≡ false → is_listed p q ≡ false
      any_listed e = rw e (by_marked (p.marked_call q))
        where
          by_marked : (b : Bool) → not b && false ≡ false
          by_marked true = refl
          by_marked false = refl

      by_role : (to : ℕ) (r : Role) → p.role q ≡ r → over_next known (exit_by p q r) (p.dead_end q) ≡ true → Contains (p.goes q) (edge to Next) → MayReturn p to → MayReturn p q
      by_role to Plain is h c m = MayReturn.goes_on q (edge to Next) (ap is_call is) c m
      by_role to (CallIn entry) is h c m = by_entry to entry is (p.marked_call q) (is_listed p q) refl refl h c m
      by_role to (CallEither entry sym) is h c m = by_outside to (CallEither entry sym) is refl refl (p.marked_call q) (is_listed p q) refl refl h c m
      by_role to (CallOut sym) is h c m = by_outside to (CallOut sym) is refl refl (p.marked_call q) (is_listed p q) refl refl h c m
      by_role to CallAny is h c m = by_outside to CallAny is refl refl (p.marked_call q) false refl (any_listed (ap (is_listed_by p (p.names q)) is)) (by_marked (p.marked_call q)) c m
        where
          by_marked : (b : Bool) → over_next known (call_exit b false CallsOut) (p.dead_end q) ≡ true
          by_marked true = h
          by_marked false = h
      by_role to Return is h c m = MayReturn.goes_on q (edge to Next) (ap is_call is) c m
      by_role to (JumpOut sym) is h c m = MayReturn.goes_on q (edge to Next) (ap is_call is) c m
      by_role to JumpAny is h c m = MayReturn.goes_on q (edge to Next) (ap is_call is) c m
      by_role to Switch is h c m = MayReturn.goes_on q (edge to Next) (ap is_call is) c m

      by_kind : (to : ℕ) (k : EdgeKind) → Contains (p.goes q) (edge to k) → carries flow known q k ≡ true → MayReturn p to → MayReturn p q
      by_kind to Next c h m = by_role to (p.role q) refl (next_is known q point ∙ h) c m
      by_kind to Taken c h m = MayReturn.branches q (edge to Taken) (λ e. let z : ⊥ = cc in z) c m
      by_kind to Fixup c h m = MayReturn.branches q (edge to Fixup) (λ e. let z : ⊥ = cc in z) c m
      by_kind to Table c h m = MayReturn.branches q (edge to Table) (λ e. let z : ⊥ = cc in z) c m
      by_kind to Sibling c h m = MayReturn.branches q (edge to Sibling) (λ e. let z : ⊥ = cc in z) c m

  -- and where it shares those of another
  pub carried_sound : (found known : List Bool) → AreSound flow found known → (q i : ℕ) → IsEdgeOf flow q i → carries flow known q (edge_at flow i).kind ≡ true → MayReturn p (edge_at flow i).to → MayReturn p q
  carried_sound found known sound q i is h m = elim (tells.edges q (point_of q is.point)) [
    | inl own ↦ own_carried found known sound q i own is h m
    | inr shares ↦ shared_sound q shares.0 shares.1 (subst (MayReturn p) (leads q shares.0 i shares.1 is) m)
  ]

  module _ (found known : List Bool) (closed : AreClosed flow found known) (program : IsProgram p) where
    -- what is carried along an edge is found: one that the flow has, one that a point shares, and any
    along_listed : (q : ℕ) (e : Edge) → IsPoint p q → Contains (edges_from flow q) e → is_set found e.to ≡ true → carries flow known q e.kind ≡ true → is_set found q ≡ true
    along_listed q e point c is h = go (edge_of q e point c)
      where
        go : (i : ℕ) × IsEdgeOf flow q i × (edge_at flow i ≡ e) → is_set found q ≡ true
        go (i, of, same) =
            (closed.passed e.to is).edges q i of (ap (λ (f : Edge). f.to) same) (subst (λ (f : Edge). carries flow known q f.kind ≡ true) (sym same) h)

    along_shared : (q r : ℕ) (e : Edge) → IsPoint p q → SharesEdges p flow q r → Contains (p.goes q) e → is_set found e.to ≡ true → is_set found q ≡ true
    along_shared q r e point shares c is =
        let there : Contains (p.goes r) e = subst (λ (es : List Edge). Contains es e) shares.same c in
        let carried : carries flow known r e.kind ≡ true = ap (carries flow known r) (is_table q r e shares there) in
        let other : is_set found r ≡ true = along_listed r e shares.point (subst (λ (es : List Edge). Contains es e) shares.own there) is carried in
        along_listed q (edge r Table) point (subst (λ (es : List Edge). Contains es (edge r Table)) (sym shares.listed) (Contains-push [] (edge r Table))) other refl

    along : (q : ℕ) (e : Edge) → IsPoint p q → Contains (p.goes q) e → is_set found e.to ≡ true → carries flow known q e.kind ≡ true → is_set found q ≡ true
    along q e point c is h = elim (tells.edges q point) [
      | inl own ↦ along_listed q e point (subst (λ (es : List Edge). Contains es e) own c) is h
      | inr shares ↦ along_shared q shares.0 e point shares.1 c is
    ]

    leaves : (q : ℕ) (r : Role) → IsPoint p q → p.role q ≡ r → exit_by p q r ≡ Leaves → is_set found q ≡ true
    leaves q r point is e = closed.leaving q (point_in q point) (sym (tells.exits q point) ∙ (ap (exit_by p q) is ∙ e))

    over : (q to : ℕ) (r : Role) → IsPoint p q → p.role q ≡ r → over_next known (exit_by p q r) (p.dead_end q) ≡ true → Contains (p.goes q) (edge to Next) → is_set found to ≡ true → is_set found q ≡ true
    over q to r point is h c f = along q (edge to Next) point c f (sym (next_is known q point) ∙ subst (λ (x : Role). over_next known (exit_by p q x) (p.dead_end q) ≡ true) (sym is) h)

    alive_over : (q : ℕ) → p.dead_end q ≡ false → not (true && p.dead_end q) ≡ true
    alive_over q e = ap not e

    -- a call that is neither marked nor listed is one of its entry
    calls_entry : (q entry : ℕ) → IsPoint p q → p.role q ≡ CallIn entry → p.marked_call q ≡ false → is_listed p q ≡ false → exit_at flow q ≡ Calls entry
    calls_entry q entry point is unmarked unlisted = sym (tells.exits q point) ∙ (ap (exit_by p q) is ∙ call_exit_of (p.marked_call q) (is_listed p q) (Calls entry) unmarked unlisted)

    known_entry : (q entry first : ℕ) → IsPoint p q → p.role q ≡ CallIn entry → p.marked_call q ≡ false → is_listed p q ≡ false → Contains (entry_points p entry) first → is_set found first ≡ true → is_set known entry ≡ true
    known_entry q entry first point is unmarked unlisted c f =
        let named : callee_at flow first ≡ entry = (tells.callees q entry first point is (arrival p program entry first c)).0 c in
        subst (λ (n : ℕ). is_set known n ≡ true) named ((closed.passed first f).callee q (calls_entry q entry point is unmarked unlisted ∙ ap Calls (sym named)))

    complete : (q : ℕ) → IsPoint p q → MayReturn p q → is_set found q ≡ true
    complete _ point (MayReturn.returns q is) = leaves q Return point is refl
    complete _ point (MayReturn.jumps_anywhere q is) = leaves q JumpAny point is refl
    complete _ point (MayReturn.jumps_out q sym is returns) = leaves q (JumpOut sym) point is (ap (λ (b : Bool). cond b Passes Leaves) returns)
    complete _ point (MayReturn.goes_on q e plain c from) = by_kind e.to e.kind c (complete e.to (program.edges q e point c) from)
      where
        by_never : (b : Bool) → over_next known (cond b Passes Leaves) (p.dead_end q) ≡ true
        by_never true = refl
        by_never false = refl

        by_role : (to : ℕ) (r : Role) → p.role q ≡ r → Contains (p.goes q) (edge to Next) → is_set found to ≡ true → is_set found q ≡ true
        by_role to Plain is c f = over q to Plain point is refl c f
        by_role to (CallIn entry) is c f = absurd (let e : is_call (p.role q) ≡ true = ap is_call is in let z : ⊥ = cc in z)
        by_role to (CallEither entry sym) is c f = absurd (let e : is_call (p.role q) ≡ true = ap is_call is in let z : ⊥ = cc in z)
        by_role to (CallOut sym) is c f = absurd (let e : is_call (p.role q) ≡ true = ap is_call is in let z : ⊥ = cc in z)
        by_role to CallAny is c f = absurd (let e : is_call (p.role q) ≡ true = ap is_call is in let z : ⊥ = cc in z)
        by_role to Return is c f = over q to Return point is refl c f
        by_role to (JumpOut sym) is c f = over q to (JumpOut sym) point is (by_never (p.never_returns sym)) c f
        by_role to JumpAny is c f = over q to JumpAny point is refl c f
        by_role to Switch is c f = over q to Switch point is refl c f

        by_kind : (to : ℕ) (k : EdgeKind) → Contains (p.goes q) (edge to k) → is_set found to ≡ true → is_set found q ≡ true
        by_kind to Next c f = by_role to (p.role q) refl c f
        by_kind to Taken c f = along q (edge to Taken) point c f refl
        by_kind to Fixup c f = along q (edge to Fixup) point c f refl
        by_kind to Table c f = along q (edge to Table) point c f refl
        by_kind to Sibling c f = along q (edge to Sibling) point c f refl
    complete _ point (MayReturn.branches q e other c from) = by_kind e.to e.kind other c (complete e.to (program.edges q e point c) from)
      where
        by_kind : (to : ℕ) (k : EdgeKind) → k ≢ Next → Contains (p.goes q) (edge to k) → is_set found to ≡ true → is_set found q ≡ true
        by_kind to Next n c f = absurd (n refl)
        by_kind to Taken n c f = along q (edge to Taken) point c f refl
        by_kind to Fixup n c f = along q (edge to Fixup) point c f refl
        by_kind to Table n c f = along q (edge to Table) point c f refl
        by_kind to Sibling n c f = along q (edge to Sibling) point c f refl
    complete _ point (MayReturn.comes_back q r out alive c from) = by_role (p.role q) refl out (complete r (program.edges q (edge r Next) point c) from)
      where
        -- a call that is marked, or not listed
        by_outside : (m b : Bool) → m || (true && not b) ≡ true → over_next known (call_exit m b CallsOut) (p.dead_end q) ≡ true
        by_outside true b h = alive_over q alive
        by_outside false true h = absurd (let z : ⊥ = cc in z)
        by_outside false false h = alive_over q alive

        by_marked : (entry : ℕ) (m b : Bool) → m || (false && not b) ≡ true → over_next known (call_exit m b (Calls entry)) (p.dead_end q) ≡ true
        by_marked entry true b h = alive_over q alive
        by_marked entry false b h = absurd (let z : ⊥ = cc in z)

        by_role : (role : Role) → p.role q ≡ role → is_call role && (p.marked_call q || (calls_outside role && not (is_listed p q))) ≡ true → is_set found r ≡ true → is_set found q ≡ true
        by_role Plain is h f = absurd (let z : ⊥ = cc in z)
        by_role (CallIn entry) is h f = over q r (CallIn entry) point is (by_marked entry (p.marked_call q) (is_listed p q) h) c f
        by_role (CallEither entry sym) is h f = over q r (CallEither entry sym) point is (by_outside (p.marked_call q) (is_listed p q) h) c f
        by_role (CallOut sym) is h f = over q r (CallOut sym) point is (by_outside (p.marked_call q) (is_listed p q) h) c f
        by_role CallAny is h f = over q r CallAny point is (alive_over q alive) c f
        by_role Return is h f = absurd (let z : ⊥ = cc in z)
        by_role (JumpOut sym) is h f = absurd (let z : ⊥ = cc in z)
        by_role JumpAny is h f = absurd (let z : ⊥ = cc in z)
        by_role Switch is h f = absurd (let z : ⊥ = cc in z)
    complete _ point (MayReturn.comes_back_in q r entry first is unlisted alive arrived inside c from) =
        by_marked (p.marked_call q) refl (complete r (program.edges q (edge r Next) point c) from) (complete first (arrival p program entry first arrived) inside)
      where
        by_marked : (m : Bool) → p.marked_call q ≡ m → is_set found r ≡ true → is_set found first ≡ true → is_set found q ≡ true
        by_marked true marked f g = over q r (CallIn entry) point is (rw marked (alive_over q alive)) c f
        by_marked false unmarked f g =
            let known_is : is_set known entry ≡ true = known_entry q entry first point is unmarked unlisted arrived g in
            over q r (CallIn entry) point is (subst (λ (x : Exit). over_next known x (p.dead_end q) ≡ true) (sym (call_exit_of (p.marked_call q) (is_listed p q) (Calls entry) unmarked unlisted)) (rw known_is (alive_over q alive))) c f

same_tests : (a b : Bool) → (a ≡ true → b ≡ true) → (b ≡ true → a ≡ true) → a ≡ b
same_tests true b f g = sym (f refl)
same_tests false true f g = g refl
same_tests false false f g = refl

-- what a sound and closed search tells of a program
module _ (p : Program) (flow : Flow) (tells : TellsFlow p flow) (shape : HasShape flow) (is : IsProgram p) (found known : List Bool) (sound : AreSound flow found known) (closed : AreClosed flow found known) where
  found_complete : (q : ℕ) → IsPoint p q → MayReturn p q → is_set found q ≡ true
  found_complete q point m = complete p flow tells shape found known closed is q point m

  found_is : (q : ℕ) → IsPoint p q → is_set found q ≡ p.may_return q
  found_is q point = same_tests (is_set found q) (p.may_return q) (λ h. (is.may_return q point).1 (sound.points p tells q h)) (λ h. found_complete q point ((is.may_return q point).0 h))

  pub may_return_is : (q : ℕ) → IsPoint p q → q < length found → slice_get found q ≡ Some (p.may_return q)
  may_return_is q point inside = slice_get-get_or found q false inside ∙ ap Some (found_is q point)

  known_is : (q entry : ℕ) → IsPoint p q → p.role q ≡ CallIn entry → p.marked_call q ≡ false → is_listed p q ≡ false → is_set known entry ≡ list_any p.may_return (entry_points p entry)
  known_is q entry point role unmarked unlisted = same_tests (is_set known entry) (list_any p.may_return (entry_points p entry)) there back
    where
      there : is_set known entry ≡ true → list_any p.may_return (entry_points p entry) ≡ true
      there h = go (sound.entries p tells q entry point role h)
        where
          go : (first : ℕ) × Contains (entry_points p entry) first × MayReturn p first → list_any p.may_return (entry_points p entry) ≡ true
          go (first, (k, l, e), m) = list_any-from_Any p.may_return (entry_points p entry) (k, first, l, e, (is.may_return first (arrival p is entry first (k, l, e))).1 m)

      back : list_any p.may_return (entry_points p entry) ≡ true → is_set known entry ≡ true
      back h = go (Any-from_list_any p.may_return (entry_points p entry) h)
        where
          go : (k : ℕ) × (first : ℕ) × (k < length (entry_points p entry)) × (get_or (entry_points p entry) k first ≡ first) × (p.may_return first ≡ true) → is_set known entry ≡ true
          go (k, first, l, e, m) =
              let point_first : IsPoint p first = arrival p is entry first (k, l, e) in
              known_entry p flow tells shape found known closed is q entry first point role unmarked unlisted (k, l, e) (found_complete first point_first ((is.may_return first point_first).0 m))

  target_is : (q : ℕ) → IsPoint p q → target_returns known (exit_at flow q) ≡ target_may_return p q
  target_is q point = ap (target_returns known) (sym (tells.exits q point)) ∙ by_role (p.role q) refl (is_listed_by p (p.names q) (p.role q)) refl
    where
      -- by whether the call is marked, and listed by its name
      Is : Bool → Exit → Bool → Type 0
      Is listed exit code = target_returns known exit ≡ (not (not (p.marked_call q) && listed) && (p.marked_call q || code))

      by_call : (m l : Bool) → target_returns known (call_exit m (not m && l) CallsOut) ≡ (not (not m && l) && (m || true))
      by_call true l = refl
      by_call false true = refl
      by_call false false = refl

      by_entry : (m l may : Bool) (entry : ℕ) → (m ≡ false → (not m && l) ≡ false → is_set known entry ≡ may) → target_returns known (call_exit m (not m && l) (Calls entry)) ≡ (not (not m && l) && (m || may))
      by_entry true l may entry is = refl
      by_entry false true may entry is = refl
      by_entry false false may entry is = is refl refl

      -- of what isn't a call, or calls anything
      by_other : (m : Bool) (exit : Exit) → target_returns known exit ≡ true → target_returns known exit ≡ (not (not m && false) && (m || true))
      by_other true exit h = h
      by_other false exit h = h

      by_jump : (b : Bool) → target_returns known (cond b Passes Leaves) ≡ true
      by_jump true = refl
      by_jump false = refl

      unlisted : (r : Role) → p.role q ≡ r → (l : Bool) → is_listed_by p (p.names q) (p.role q) ≡ l → is_listed_by p (p.names q) r ≡ false → l ≡ false
      unlisted r role l e h = sym e ∙ (ap (is_listed_by p (p.names q)) role ∙ h)

      other : (r : Role) → p.role q ≡ r → (l : Bool) → is_listed_by p (p.names q) (p.role q) ≡ l → is_listed_by p (p.names q) r ≡ false → (exit : Exit) → target_returns known exit ≡ true → Is l exit true
      other r role l e h exit returns = rw (unlisted r role l e h) (by_other (p.marked_call q) exit returns)

      by_role : (r : Role) → p.role q ≡ r → (l : Bool) → is_listed_by p (p.names q) (p.role q) ≡ l → Is l (exit_by p q r) (code_may_return p r)
      by_role Plain role l e = other Plain role l e refl Passes refl
      by_role (CallIn entry) role l e = rw (← e) (by_entry (p.marked_call q) (is_listed_by p (p.names q) (p.role q)) (list_any p.may_return (entry_points p entry)) entry (known_is q entry point role))
      by_role (CallEither entry sym) role l e = rw (← e) (by_call (p.marked_call q) (is_listed_by p (p.names q) (p.role q)))
      by_role (CallOut sym) role l e = rw (← e) (by_call (p.marked_call q) (is_listed_by p (p.names q) (p.role q)))
      by_role CallAny role l e = other CallAny role l e refl CallsOut refl
      by_role Return role l e = other Return role l e refl Leaves refl
      by_role (JumpOut sym) role l e = other (JumpOut sym) role l e refl (exit_by p q (JumpOut sym)) (by_jump (p.never_returns sym))
      by_role JumpAny role l e = other JumpAny role l e refl Leaves refl
      by_role Switch role l e = other Switch role l e refl Passes refl

  pub comes_back_is : (targets : List Bool) (q : ℕ) → IsPoint p q → q < length targets → is_set targets q ≡ target_returns known (exit_at flow q) → slice_get targets q ≡ Some (target_may_return p q)
  comes_back_is targets q point inside e = slice_get-get_or targets q false inside ∙ ap Some (e ∙ target_is q point)

  pub edges_are : (q : ℕ) → IsPoint p q → filter (λ e. stays (target_returns known (exit_at flow q)) e.kind) (edges_from flow q) ≡ filter (λ e. can_go p q e.kind) (edges_from flow q)
  edges_are q point = filter_agree (λ f. stays (target_returns known (exit_at flow q)) f.kind) (λ f. can_go p q f.kind) (λ f. by_kind f.kind) (edges_from flow q)
    where
      by_kind : (k : EdgeKind) → stays (target_returns known (exit_at flow q)) k ≡ can_go p q k
      by_kind Next = target_is q point
      by_kind Taken = refl
      by_kind Fixup = refl
      by_kind Table = refl
      by_kind Sibling = refl
