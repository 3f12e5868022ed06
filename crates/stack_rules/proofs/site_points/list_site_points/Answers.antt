-- The points that run in the kept sites, in order.
use Rattle.std.proofs.Common.{◌≡◌, ℕ, ◌<◌, All, Contains, List, Option, IsSome, length, get_or, arith, subst, sym, ◌∙◌}
use Rattle.std.specs.List.{AllPairs}
use Rattle.std.proofs.lemmas.List.Elements.{All-contains, All-weaker, Contains-get_or}
use Rattle.std.specs.List.Sorted.{IsPermutation}
use Rattle.std.proofs.lemmas.List.Sorted.{All-permutation, IsPermutation-trans}
use Rattle.state_defs.specs.declared.state.State.{State}
use Rattle.program_graph.specs.declared.parts.GraphSite.{GraphSite}
use Rattle.kept_states.specs.LevelStates.{at}
use Rattle.stack_rules.specs.Sites.{AreApart, IsIndexOf}
use Rattle.stack_rules.specs.Points.{AreAmong, ArePointsIn, AreKeptIn}
use Rattle.stack_rules.proofs.ListedPoints.{index_apart, some_is_point, starts_apart, site_points}
use Rattle.stack_rules.proofs.site_points.list_site_points.Goals as goal

-- some kept points of a list are kept
among_kept : (P : ℕ → Type 0) (all points : List ℕ) → All P all → ((q : ℕ) → Contains points q → Contains all q) → All P points
among_kept P all points each listed k d l = All-contains P all (get_or points k d) each (listed (get_or points k d) (Contains-get_or points k d l))

-- those that run in kept sites are kept
among_are_kept : (states : List (Option State)) (all among : List ℕ) → All (λ q. IsSome (at states q)) all → ((q : ℕ) → Contains among q → Contains all q) → All (λ q. IsSome (at states q)) among
among_are_kept states all among kept listed = among_kept (λ q. IsSome (at states q)) all among kept listed

pub by_site-requires : goal.by_site-requires
by_site-requires c =
    let states = c.args.kept.now in
    let among : List ℕ = c.in_ok-among.among.items in
    let kept : All (λ q. IsSome (at states q)) among = among_are_kept states c.in_ok-all.all.items among c.in_ok-all.ensures.kept c.in_ok-among.ensures.listed in
    subst (All (λ (q : ℕ). q < length c.args.graph.now.parts.points.items)) (sym c.deref.ensures.value)
    (All-weaker (λ (q : ℕ). IsSome (at states q)) (λ (q : ℕ). q < length c.args.graph.now.parts.points.items) (λ q h. omega (arith, some_is_point states q h, c.requires)) among kept)

pub sort-requires : goal.sort-requires
sort-requires c =
    let states = c.args.kept.now in
    let among : List ℕ = c.in_ok-among.among.items in
    let kept : All (λ q. IsSome (at states q)) among = among_are_kept states c.in_ok-all.all.items among c.in_ok-all.ensures.kept c.in_ok-among.ensures.listed in
    let known : All (λ q. q < length c.args.graph.now.parts.points.items) among = All-weaker (λ (q : ℕ). IsSome (at states q)) (λ (q : ℕ). q < length c.args.graph.now.parts.points.items) (λ q h. omega (arith, some_is_point states q h, c.requires)) among kept in
    All-permutation (λ (q : ℕ). q < length c.args.graph.now.parts.points.items) among c.in_ok-points.points.items (subst (λ (xs : List ℕ). IsPermutation xs c.in_ok-points.points.items) c.deref.ensures.value c.in_ok-points.ensures) known

pub returns-clause-kept : goal.returns-clause-kept
returns-clause-kept c =
    let states = c.args.kept.now in
    let among : List ℕ = c.in_ok-among.among.items in
    let points : List ℕ = c.in_ok-points.points.items in
    let kept : All (λ q. IsSome (at states q)) among = among_are_kept states c.in_ok-all.all.items among c.in_ok-all.ensures.kept c.in_ok-among.ensures.listed in
    let same : IsPermutation among points = subst (λ (xs : List ℕ). IsPermutation xs points) c.deref.ensures.value c.in_ok-points.ensures in
    All-permutation (λ (q : ℕ). IsSome (at states q)) points c.sort.new.points.items c.sort.ensures.same (All-permutation (λ (q : ℕ). IsSome (at states q)) among points same kept)

pub returns-clause-listed : goal.returns-clause-listed
returns-clause-listed c = record {
  within = All-weaker (λ (q : ℕ). IsSome (at c.args.kept.now q)) (λ (q : ℕ). q < length c.args.kept.now) (λ q h. some_is_point c.args.kept.now q h) c.sort.new.points.items (returns-clause-kept c);
  listed = λ p t laid states.
      let kept = c.args.kept.now in
      let count : p.count ≡ length kept = t.count ∙ sym c.requires in
      let index : List GraphSite = c.in_ok-sites.sites in
      let all : List ℕ = c.in_ok-all.all.items in
      let starts : List GraphSite = c.sorted-starts.result in
      let among : List ℕ = c.in_ok-among.among.items in
      let points : List ℕ = c.in_ok-points.points.items in
      let is : IsIndexOf p index = c.in_ok-sites.ensures p t in
      let apart : AreApart index = index_apart p index laid is in
      let are : ArePointsIn p (at kept) index all = c.in_ok-all.ensures.told p t apart in
      let found : AreKeptIn p all index c.points_in.new.starts.items = c.in_ok-all.ensures.starts p t apart in
      let kept_in : AreKeptIn p all index starts = record {
        each = λ site k. found.each site ((c.sorted-starts.ensures site).0 k);
        all = λ q site k own start. (c.sorted-starts.ensures site).1 (found.all q site k own start);
      } in
      let start_apart : AreApart starts = starts_apart p laid kept states count index is all are c.in_ok-all.ensures.kept starts kept_in in
      let told : AreAmong p all starts among = c.in_ok-among.ensures.told p t start_apart in
      let ascending : AllPairs (λ q r. q < r) among = c.in_ok-among.ensures.ascending c.in_ok-all.ensures.ascending in
      let same : IsPermutation among points = subst (λ (xs : List ℕ). IsPermutation xs points) c.deref.ensures.value c.in_ok-points.ensures in
      site_points p laid kept states count index is all are c.in_ok-all.ensures.kept starts kept_in among c.sort.new.points.items told ascending (IsPermutation-trans among points c.sort.new.points.items same c.sort.ensures.same) (c.in_ok-sort.ensures.ordered p t);
}
