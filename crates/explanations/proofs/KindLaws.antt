-- The laws of the kinds of refusals. Those of the constants are so by computation.
use Rattle.std.proofs.Common.{◌≡◌, refl, sym, subst, ℕ, ◌&&◌, Bool, true, false, cond, List, [], ◌∷◌, Option, Some, None, option_map, find, Bor}
use Rattle.std.proofs.lemmas.Bool.{false≢true}
use Rattle.std.specs.Option.{IfSome}
use Rattle.std.specs.List.{list_all}
use Rattle.explanations.specs.Topics.{is_topic}
use Rattle.explanations.specs.Refusals.{AreKindsTold, Mark, has_words, marks, topic_in}
use Rattle.explanations.specs.Volumes.{entries, rules_1_to_9, rules_10_to_19, rules_21_to_44, rules_45_to_54, refusals_of_entries, refusals_bad, files_that_fail, refusals_f_to_m, refusals_n, refusals_o_to_z}

marks-are-topics : list_all (λ mark. is_topic mark.topic) marks ≡ true
unfolding marks entries rules_1_to_9 rules_10_to_19 rules_21_to_44 rules_45_to_54 refusals_of_entries refusals_bad files_that_fail refusals_f_to_m refusals_n refusals_o_to_z
marks-are-topics = refl

pub kinds-are-told : AreKindsTold
unfolding marks entries rules_1_to_9 rules_10_to_19 rules_21_to_44 rules_45_to_54 refusals_of_entries refusals_bad files_that_fail refusals_f_to_m refusals_n refusals_o_to_z
kinds-are-told = refl

both : (a b : Bool) → (a && b) ≡ true → (a ≡ true) × (b ≡ true)
both true b e = (refl, e)
both false b e = absurd (false≢true e)

-- where each mark's topic is one, so is the topic that is found
topics-in : (ms : List Mark) (line : List ℕ) → list_all (λ mark. is_topic mark.topic) ms ≡ true → IfSome (topic_in ms line) (λ topic. is_topic topic ≡ true)
topics-in [] line all = tt
topics-in (m ∷ ms) line all =
    let each = both (is_topic m.topic) (list_all (λ mark. is_topic mark.topic) ms) all in
    elim (has_words line m.words) as (λ b. IfSome (option_map (λ mark. mark.topic) (cond b (Some m) (find (λ mark. has_words line mark.words) ms))) (λ topic. is_topic topic ≡ true))
    [ true ↦ each.0 | false ↦ topics-in ms line each.1 ]

of-text : (topic : Option (Bor (List ℕ))) → IfSome (option_map (λ t. t.now) topic) (λ t. is_topic t ≡ true) → IfSome topic (λ t. is_topic t.now ≡ true)
of-text None h = tt
of-text (Some t) h = h

-- the topic that a line is given is one
pub topic-is-one : (topic : Option (Bor (List ℕ))) (line : List ℕ) → option_map (λ t. t.now) topic ≡ topic_in marks line → IfSome topic (λ t. is_topic t.now ≡ true)
topic-is-one topic line e = of-text topic (subst (λ o. IfSome o (λ t. is_topic t ≡ true)) (sym e) (topics-in marks line marks-are-topics))
