-- One turn more is pushed.
use Rattle.std.proofs.Common.{◌≡◌, ℕ, ◌<◌, ◌++◌, ◌∷◌, [], List, Option, None, ap, get_or, length, reverse, subst, take, ◌∙◌}
use Rattle.state_ways.specs.declared.steps.WayKind.TheVariants.{Entry}
use Rattle.state_ways.specs.declared.steps.WayStep.{WayStep}
use Rattle.state_ways.specs.declared.ways.Turn.{Turn}
use Rattle.state_ways.specs.Turns.{chain_at, chains_of, up_to}
use Rattle.state_ways.proofs.Chains.{before_in, begins_so, one_pushed}
use Rattle.state_ways.proofs.ways.push_chain.Goals as goal

pub loop-next-preserved : goal.loop-next-preserved
loop-next-preserved c =
    let d : Turn = record { step = record { point = 0; kind = Entry }; before = None } in
    let turns : List Turn = c.args.turns.now in
    let i : ℕ = c.in-Some.number in
    let t : Turn = get_or turns i d in
    let l : i < length turns = c.loop-next.invariant.named i c.in-Some.is in
    let all : List WayStep = c.args.into.now.items ++ reverse (chain_at (chains_of turns) c.args.last) in
    let items : c.push.new.self.items ≡ c.loop-next.into.items ++ t.step ∷ [] = c.in_ok-push.ensures.items in
    record {
      named = λ j b. before_in turns c.requires.before i j d l b;
      pushed = ap (λ (w : List WayStep). w ++ reverse (up_to (chains_of turns) t.before)) items ∙ one_pushed turns c.requires.before i d l c.loop-next.into.items all (subst (λ (o : Option ℕ). c.loop-next.into.items ++ reverse (up_to (chains_of turns) o) ≡ all) c.in-Some.is c.loop-next.invariant.pushed);
      start = ap (λ (w : List WayStep). take (length c.args.into.now.items) w) items ∙ begins_so c.args.into.now.items c.loop-next.into.items (t.step ∷ []) c.loop-next.invariant.start;
    }
