-- The plain point at one start more is listed, and at the end those at all starts.
use Rattle.std.proofs.Common.{◌≡◌, ℕ, ◌≤◌, List, Option, length, sym, ap, ◌∙◌, subst, arith}
use Rattle.std.proofs.lemmas.List.{get_or_default}
use Rattle.ot_base.specs.declared.place.Place.{Place}
use Rattle.flow_defs.specs.Coded.{Coded}
use Rattle.flow_defs.specs.Code.{alternatives_of}
use Rattle.symbols_relocs.specs.declared.function.Function.{Function}
use Rattle.symbols_relocs.specs.Lists.{AreFunctions}
use Rattle.control_flow.specs.Entering.{nowhere, start_at, starts_of, AreListedTo}
use Rattle.control_flow.specs.Listed.{count_of, AreEntered}
use Rattle.control_flow.proofs.Listing.{all_listed, listed_to_more, none_listed}
use Rattle.control_flow.proofs.entering.list_entered.Goals as goal

pub loop-k-init : goal.loop-k-init
loop-k-init c =
    let o : Coded = c.args.points.now in
    let count : c.count_points.result ≡ count_of o = c.count_points.ensures ∙ ap count_of c.places-places.ensures in
    none_listed o c.in_ok-starts.starts.items c.in_ok-entered.entered.items c.count_points.result count c.in_ok-entered.ensures

pub enter_start-requires-clause-right : goal.enter_start-requires-clause-right
enter_start-requires-clause-right c = c.loop-k.invariant.are

pub loop-k-preserved : goal.loop-k-preserved
loop-k-preserved c =
    let starts : List Place = c.in_ok-starts.starts.items in
    let own : c.index.result.now ≡ start_at starts c.loop-k.k = c.index.ensures ∙ get_or_default starts c.loop-k.k _ nowhere (omega (arith, c.loop-k-test.true)) in
    listed_to_more c.args.points.now c.in_ok-starts.starts.items c.loop-k.entered.items c.enter_start.new.entered.items c.loop-k.k c.loop-k.invariant
    c.in_ok-enter_start.ensures.right c.in_ok-enter_start.ensures.kept (λ q e at same. c.in_ok-enter_start.ensures.listed q e at (same ∙ sym own))

-- the starts are those of the object
all_of : (own o : Coded) (starts : List Place) (entered : List (Option ℕ)) (n : ℕ) → own ≡ o → (functions : List Function) → AreFunctions own.elf functions → starts ≡ starts_of functions (alternatives_of own) → length starts ≤ n → AreListedTo o starts entered n → AreEntered o entered (count_of o)
all_of own o starts entered n same functions all is past listed =
    let at : starts ≡ starts_of functions (alternatives_of o) = is ∙ ap (λ (e : Coded). starts_of functions (alternatives_of e)) same in
    all_listed o functions entered n (subst (λ (e : Coded). AreFunctions e.elf functions) same all) (subst (λ (s : List Place). length s ≤ n) at past) (subst (λ (s : List Place). AreListedTo o s entered n) at listed)

pub returns : goal.returns
returns c =
    let told = c.in_ok-starts.ensures in
    all_of c.places-places.result.now c.args.points.now c.in_ok-starts.starts.items c.loop-k.entered.items c.loop-k.k c.places-places.ensures told.0 told.1 told.2 (omega (arith, c.loop-k-test.false)) c.loop-k.invariant
