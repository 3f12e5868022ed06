-- One word of a command's own, where clap waits for no value.
use Rattle.std.proofs.Common.{◌≡◌, ℕ, Bool, true, false, cond, ◌&&◌, ◌||◌, [], ◌∷◌, Option, Some, None, bytes_eq, refl, ap, ap₂, ◌∙◌}
use Rattle.std.specs.Option.{option_map_or}
use Rattle.std.specs.Prelude.{option_and_then}
use Rattle.clap.specs.Lexer.{long_of, long_of_rest, short_of, short_of_rest, strip_byte}
use Rattle.clap.specs.Simple.{Shape}
use Rattle.clap.specs.Words.{Text}
use Rattle.clap.specs.Takes.{bundle_passes, flag_word_passes, step_passes, turn_passes}
use Rattle.clap.specs.Walk.{Held, Step, Walk, after_step, arg_by_index, idle, long_or_other, short_or_plain, to_positional, trailing, value, walked}
use Rattle.cli_words.specs.Words.{Word, is_option}

-- the walk behind words that are done with
abbrev pub at_idle : Held → ℕ → Walk
at_idle h position = record { held = h; waiting = idle; position = position; is_trailing = false; stopped = None }

pub no_option_is : (word : Word) → is_option word ≡ false → (rest : Word) → bytes_eq word (45 ∷ rest) ≡ false
no_option_is [] e rest = refl
no_option_is (byte ∷ bytes) e rest = ap (λ b. b && bytes_eq bytes rest) e

no_long : (word : Word) → is_option word ≡ false → long_of word ≡ None
no_long [] e = refl
no_long (byte ∷ bytes) e = ap (λ b. option_and_then long_of_rest (option_and_then (strip_byte 45) (cond b (Some bytes) None))) e

no_short : (word : Word) → is_option word ≡ false → short_of word ≡ None
no_short [] e = refl
no_short (byte ∷ bytes) e = ap (λ b. option_and_then short_of_rest (cond b (Some bytes) None)) e

pub and_false : (b : Bool) → (b && false) ≡ false
and_false true = refl
and_false false = refl

-- a name or a number goes to the place that is next
module _ (s : Shape) (h : Held) (position : ℕ) (word : Word) where
  abbrev met : Bool → Option (Text × Option Text) → Held × Step
  met is_dashes long = cond is_dashes (h, trailing position) (long_or_other s.rules idle word long h)

  abbrev after : Held × Step → Walk
  after m = after_step s.rules word (at_idle h position) m.0 m.1

  abbrev judged : Bool → Option (Text × Option Text) → Bool
  judged is_dashes long = (is_dashes || flag_word_passes s.rules s.args_override_self long word h) && step_passes s position (met is_dashes long).0 (met is_dashes long).1

  pub name_walked : is_option word ≡ false → walked s.rules [] (at_idle h position) word ≡ to_positional s.rules (arg_by_index s.rules position) word (at_idle h position) h
  unfolding walked
  name_walked e =
      ap₂ (λ d l. after (met d l)) (no_option_is word e (45 ∷ [])) (no_long word e)
      ∙ ap (λ o. after (short_or_plain s.rules idle word o h)) (no_short word e)

  pub name_passes : is_option word ≡ false → turn_passes s [] (at_idle h position) word ≡ step_passes s position h value
  name_passes e =
      ap₂ judged (no_option_is word e (45 ∷ [])) (no_long word e)
      ∙ ap (λ o. let m = short_or_plain s.rules idle word o h in option_map_or (λ flags. bundle_passes s.rules s.args_override_self flags h) o true && step_passes s position m.0 m.1) (no_short word e)
