use Rattle.std.proofs.Common.{◌≡◌, ◌+◌, ℕ, true, length, sym, ap, refl, ◌∙◌, arith, subst, ◌++◌, ◌∷◌, [], List}
use Rattle.std.proofs.lemmas.Bool.{false≢true}
use Rattle.std.proofs.lemmas.Result.{err_from_is_err_and}
use Rattle.flow_defs.specs.Coded.{Coded, coded_by}
use Rattle.elf_objects.specs.Contents.{is_text, section_at}
use Rattle.x86_text.specs.Code.{Body, insns_of}
use Rattle.alternatives.specs.Gathered.{plain_insns}
use Rattle.flow_defs.specs.Code.{body_of}
use Rattle.alternatives.specs.declared.texts.SectionText.{SectionText}
use Rattle.object_points.proofs.TextsLemmas.{all_texts, code_more, insns_below, other_below, text_below, texts_below}
use Rattle.object_points.specs.Linked.{AreCode, IsTextsFault}
use Rattle.object_points.proofs.texts.read_texts.Goals as goal
use Rattle.object_points.proofs.texts.read_texts.Goals.{then-is_text+in_ok-text+in_ok-push, else-is_text}

-- the texts with one more
more : (o : Coded) (n : ℕ) (t : SectionText) (before after : List SectionText) → is_text (section_at o.elf n) ≡ true → t.sec ≡ n → t.text ≡ body_of o n → before ≡ texts_below o n → after ≡ before ++ t ∷ [] → after ≡ texts_below o (n + 1)
more o n t before after text sec body read pushed =
    pushed
    ∙ ap (λ ts. ts ++ t ∷ []) read
    ∙ ap (λ (k : ℕ). texts_below o n ++ record { sec = k; text = t.text } ∷ []) sec
    ∙ ap (λ (b : Body). texts_below o n ++ record { sec = n; text = b } ∷ []) body
    ∙ sym (text_below o n text)

pub returns-in_err-text-clause-fault : goal.returns-in_err-text-clause-fault
returns-in_err-text-clause-fault c =
    let here : IsTextsFault (coded_by c.args.map c.args.object.now) c.in_err-text.field-0.0 = c.in_err-text.ensures.fault c.loop-sec.invariant.code in
    let p = err_from_is_err_and c.from_residual-in_err-text.result c.from_residual-in_err-text.ensures.1 in
    rw (p.1, p.2) here

pub loop-sec-preserved : goal.loop-sec-preserved
loop-sec-preserved c =
    let o : Coded = coded_by c.args.map c.args.object.now in
    let n = c.loop-sec.sec in
    elim c.if-is_text.branch [
      | then-is_text+in_ok-text+in_ok-push w ↦
          let text = sym c.is_text.ensures ∙ w.if-is_text.true in
          let after = ap (λ v. v.items) w.texts-is ∙ w.in_ok-push.ensures.items in
          record {
            read = more o n _ c.loop-sec.texts.items _ text refl w.in_ok-text.ensures.read c.loop-sec.invariant.read after;
            insns = w.insns-is ∙ w.in_ok-text.ensures.insns ∙ ap (λ is. is ++ insns_of (body_of o n)) c.loop-sec.invariant.insns ∙ sym (insns_below o n text);
            code = code_more o n c.loop-sec.invariant.code (λ _. w.in_ok-text.ensures.code);
          }
      | else-is_text w ↦
          let other = sym c.is_text.ensures ∙ w.if-is_text.false in
          record {
            read = ap (λ v. v.items) w.texts-is ∙ c.loop-sec.invariant.read ∙ sym (other_below o n other);
            insns = w.insns-is ∙ c.loop-sec.invariant.insns ∙ sym (ap plain_insns (other_below o n other));
            code = code_more o n c.loop-sec.invariant.code (λ text. absurd (false≢true (sym other ∙ text)));
          }
    ]

pub returns-clause-read : goal.returns-clause-read
returns-clause-read c =
    let o : Coded = coded_by c.args.map c.args.object.now in
    let whole : c.loop-sec.sec ≡ length o.elf.sections = omega (arith, c.loop-sec-test.false, c.loop-sec.auto.sec-end, c.sections-sec-end.ensures.value) in
    c.loop-sec.invariant.read ∙ ap (texts_below o) whole ∙ all_texts o

pub returns-clause-insns : goal.returns-clause-insns
returns-clause-insns c =
    let o : Coded = coded_by c.args.map c.args.object.now in
    let whole : c.loop-sec.sec ≡ length o.elf.sections = omega (arith, c.loop-sec-test.false, c.loop-sec.auto.sec-end, c.sections-sec-end.ensures.value) in
    c.forget_spellings.ensures ∙ c.loop-sec.invariant.insns ∙ ap (λ n. plain_insns (texts_below o n)) whole ∙ ap plain_insns (all_texts o)

pub returns-clause-code : goal.returns-clause-code
returns-clause-code c =
    let o : Coded = coded_by c.args.map c.args.object.now in
    let whole : c.loop-sec.sec ≡ length o.elf.sections = omega (arith, c.loop-sec-test.false, c.loop-sec.auto.sec-end, c.sections-sec-end.ensures.value) in
    subst (AreCode o) whole c.loop-sec.invariant.code
