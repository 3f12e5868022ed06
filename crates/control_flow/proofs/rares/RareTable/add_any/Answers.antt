use Rattle.std.proofs.Common.{◌≡◌, ℕ, List, Option, subst}
use Rattle.std.specs.Prelude.{MatchOption}
use Rattle.flow_defs.specs.Coded.{Coded}
use Rattle.program_graph.specs.declared.parts.Hinted.{Hinted}
use Rattle.program_graph.specs.declared.parts.Rare.{Rare}
use Rattle.control_flow.specs.Hinted.{IsHinted, IsUnhinted}
use Rattle.control_flow.specs.Rares.{IsRare}
use Rattle.control_flow.proofs.RareSteps.{more_rares}
use Rattle.control_flow.proofs.Steps.{all_ok}
use Rattle.control_flow.proofs.rares.RareTable.add_any.Goals as goal

-- what was found is so in the object of the points
found_is : (o own : Coded) (restores : List ℕ) (n : ℕ) (found : Option Hinted) → own ≡ o → MatchOption found (IsUnhinted own n) (IsHinted own restores n) → MatchOption found (IsUnhinted o n) (IsHinted o restores n)
found_is o own restores n found same is = subst (λ (e : Coded). MatchOption found (IsUnhinted e n) (IsHinted e restores n)) same is

pub returns : goal.returns
returns c =
    let o : Coded = c.args.points.now in
    let n : ℕ = c.args.n in
    let restores = c.args.hints.now.restores in
    let known : Option ℕ = c.in_ok-known.known in
    let x : Rare = c.rare_of.result in
    let rare : IsRare o n known x = subst (λ (e : Coded). IsRare e n known x) c.places-places.ensures c.rare_of.ensures in
    let after = c.number_rare.new.rares.items in
    all_ok c.number_rare.result (λ number is numbers are.
    more_rares o restores c.args.self.now.rares.items after c.args.self.now.hinted.items c.push_hinted.new.hinted.items numbers n c.hinted_of.result known number x are
    (found_is o c.args.hints.now.object restores n c.hinted_of.result c.requires.hints c.hinted_of.ensures) c.in_ok-known.ensures rare is) c.number_rare.ensures
