-- What the words ask for, from what a parse answers.
use Rattle.std.proofs.Common.{◌≡◌, ◌≢◌, ◌∙◌, Bool, true, false, List, [], ◌∷◌, codes, None, inl, inr, ap, sym, subst, refl, true≢false}
use Rattle.std.specs.Option.{option_map, unwrap_or}
use Rattle.clap.specs.Words.{App, HasMatchesOf, HasKind, Kinds, Text, all_of, fault_of, found_of, is_simple, is_simple_and_free, kind_of, matched_of, raw_values}
use Rattle.clap.specs.declared.error.Error.{Error}
use Rattle.clap.specs.declared.error.kind.ErrorKind.TheVariants.{OutOfMemory}
use Rattle.clap.specs.declared.parser.matches.ArgMatches.{ArgMatches}
use Rattle.clap.proofs.WalkLemmas.{raw_values-rows}
use Rattle.program_words.specs.Commands.{positional_words}
use Rattle.program_words.specs.Words.{word_asked, words_asked}
use Rattle.program_words.proofs.Walks.{parsed}

simple : is_simple positional_words ≡ true
simple = refl

simple_and_free : is_simple_and_free positional_words ≡ true
simple_and_free = refl

abbrev is_none : Kinds → Bool
is_none [] = true
is_none (k ∷ ks) = false

-- what was found is what the words ask for
pub found_asked : (app : App) (words : List Text) (m : ArgMatches) → app ≡ positional_words → (is_simple_and_free app ≡ true → fault_of app words ≡ []) → HasMatchesOf app words m
    → words_asked (unwrap_or (option_map raw_values (matched_of (found_of m) (codes "words"))) []) ≡ word_asked words
found_asked app words m is kinds matches =
    let none : fault_of positional_words words ≡ [] = subst (λ a. is_simple_and_free a ≡ true → fault_of a words ≡ []) is kinds simple_and_free in
    let rows = (subst (λ a. HasMatchesOf a words m) is matches simple).0 in
    elim (parsed words) [
      | inl read ↦ ap (λ o. words_asked (unwrap_or o [])) (raw_values-rows (found_of m) (codes "words") ∙ ap (all_of (codes "words")) rows ∙ read.found)
      | inr refuses ↦ absurd (true≢false (ap is_none (sym none ∙ refuses.some)))
    ]

-- words that are refused, though memory was not short, ask for nothing
pub refused_asked : (app : App) (words : List Text) (e : Error) → app ≡ positional_words → (is_simple_and_free app ≡ true → HasKind (fault_of app words) e) → kind_of e ≢ OutOfMemory → word_asked words ≡ None
refused_asked app words e is kinds other =
    let kind : HasKind (fault_of positional_words words) e = subst (λ a. is_simple_and_free a ≡ true → HasKind (fault_of a words) e) is kinds simple_and_free in
    elim (parsed words) [
      | inl read ↦ elim (subst (λ kinds. HasKind kinds e) read.none kind) [ inl short ↦ absurd (other short) | inr among ↦ absurd among ]
      | inr refuses ↦ refuses.nothing
    ]
