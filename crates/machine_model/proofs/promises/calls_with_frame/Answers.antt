use Rattle.std.proofs.Common.{◌≡◌, Bool, true, false, refl, sym, ap, ◌∙◌, arith}
use Rattle.std.specs.Prelude.{not}
use Rattle.std.proofs.lemmas.Bool.{and_parts}
use Rattle.machine_model.specs.Frame.{frames_of}
use Rattle.machine_model.proofs.promises.calls_with_frame.Goals as goal

-- what isn't is false
not_true : (b : Bool) → not b ≡ true → b ≡ false
not_true true h = cc
not_true false h = refl

pub returns-else-not-is_framed_call : goal.returns-else-not-is_framed_call
returns-else-not-is_framed_call c = λ set.
    let holds : c.is_framed_call.result ≡ true = (let passes = c.if-not-is_framed_call.false in grind arith) in
    let both = and_parts _ _ (sym c.is_framed_call.ensures ∙ holds) in (
      λ h f fs _ _ _ e of_call. c.is_framed.ensures.0 h f fs (ap frames_of c.as_slice.ensures.value ∙ e) of_call,
      λ h. c.is_framed.ensures.1 (λ f fs e of_call. h f fs both.0 (not_true _ both.1) c.in-None.is (ap frames_of (sym c.as_slice.ensures.value) ∙ e) of_call),
    )
