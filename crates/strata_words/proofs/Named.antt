-- Digests that are read one by one: `begins`, `goes_on` and `are_named` are the loop, and `not_named` its end at a text that names none.
use Rattle.std.specs.Borrow.{Bor}
use Rattle.std.proofs.Common.{◌≡◌, ◌∙◌, ◌<◌, ◌+◌, ℕ, zero, suc, true, true≢false, ap, sym, refl, subst, List, [], ◌∷◌, ◌++◌, Option, Some, None, is_some, get_or, length, take, arith}
use Rattle.std.proofs.lemmas.List.{map-append, take_all, take_more}
use Rattle.std.proofs.lemmas.List.Elements.{All-append, All-cons, All-head, All-nil, All-tail}
use Rattle.clap.specs.Walk.{Text, texts}
use Rattle.romfs_seal.specs.declared.digest.Digest.{Digest}
use Rattle.strata_words.specs.Digests.{AreNamed, digests_named, named_in}

-- what the first texts say
pub record AreSoFar (given : List (Bor Text)) (i : ℕ) (items : List (Option Digest)) : Type 0 where
  pub items_are : items ≡ digests_named (texts (take i given))
  pub named : AreNamed (texts (take i given))

abbrev IsNamed : Text → Type 0
IsNamed text = is_some (named_in text) ≡ true

pub begins : (given : List (Bor Text)) → AreSoFar given 0 []
begins given = record { items_are = refl; named = All-nil IsNamed }

one_named : (text : Text) (named : Option Digest) → named_in text ≡ Some named
    → (AreNamed (text ∷ [])) × (digests_named (text ∷ []) ≡ named ∷ [])
one_named text named is =
    (All-cons IsNamed text [] (ap (λ o. is_some o) is) (All-nil IsNamed), rw is refl)

-- with one more
pub goes_on : (given : List (Bor Text)) (i : ℕ) (d : Bor Text) (named : Option Digest) (items new : List (Option Digest))
    → i < length given → named_in (get_or given i d).now ≡ Some named → AreSoFar given i items → new ≡ items ++ named ∷ []
    → AreSoFar given (i + 1) new
goes_on given i d named items new within is so_far new_is =
    let one = one_named (get_or given i d).now named is in
    let more : texts (take (i + 1) given) ≡ texts (take i given) ++ (get_or given i d).now ∷ [] =
    ap texts (take_more given i d within) ∙ map-append (λ (s : Bor Text). s.now) (take i given) (get_or given i d ∷ []) in
    record {
      items_are =
          new_is
          ∙ ap (λ l. l ++ named ∷ []) so_far.items_are
          ∙ ap (λ l. digests_named (texts (take i given)) ++ l) (sym one.1)
          ∙ sym (ap digests_named more ∙ map-append _ (texts (take i given)) ((get_or given i d).now ∷ []));
      named = subst AreNamed (sym more) (All-append IsNamed (texts (take i given)) ((get_or given i d).now ∷ []) so_far.named one.0);
    }

-- and with all
pub are_named : (given : List (Bor Text)) (i : ℕ) (items : List (Option Digest)) → i ≡ length given → AreSoFar given i items
    → (items ≡ digests_named (texts given)) × AreNamed (texts given)
are_named given i items all so_far =
    let same : take i given ≡ given = take_all i given (omega (arith, all)) in
    (so_far.items_are ∙ ap (λ l. digests_named (texts l)) same, subst (λ l. AreNamed (texts l)) same so_far.named)

named_at : (given : List (Bor Text)) (i : ℕ) (d : Bor Text) → i < length given → AreNamed (texts given)
    → is_some (named_in (get_or given i d).now) ≡ true
named_at [] i d within all = absurd (omega arith)
named_at (t ∷ ts) zero d within all = All-head IsNamed t.now (texts ts) all
named_at (t ∷ ts) (suc i) d within all = named_at ts i d (omega arith) (All-tail IsNamed t.now (texts ts) all)

-- a text that says nothing is one too many
pub not_named : (given : List (Bor Text)) (i : ℕ) (d : Bor Text) → i < length given → named_in (get_or given i d).now ≡ None
    → ¬ AreNamed (texts given)
not_named given i d within none all =
    true≢false (sym (named_at given i d within all) ∙ ap (λ o. is_some o) none)
