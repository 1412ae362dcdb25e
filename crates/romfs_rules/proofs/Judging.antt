-- What the tests of the rules say of a header: each is true exactly if its fact holds. They are
-- joined by and_known, or_else and or_true, and read a mark (mark_says), a list (rises, list_says,
-- listed_says), the data (data_says), or the end of hard links, which is one (one_end, link_says).
use Rattle.std.proofs.Common.{◌≡◌, ◌∙◌, sym, subst, ℕ, ◌/◌, ◌<◌, ◌≤◌, ◌↔◌, ◌⊎◌, inl, inr, List, Bool, get_or, true, false, Some, IsTrue, IsSomeAnd, Contains, length, refl, arith}
use Rattle.std.proofs.lemmas.Bool.{cases_order, false≢true}
use Rattle.std.proofs.lemmas.List.{get_or_default}
use Rattle.romfs_format.specs.declared.head.End.{End}
use Rattle.romfs_format.specs.declared.head.End.TheVariants.{AtDirectory, AtOther, Nowhere}
use Rattle.romfs_format.specs.declared.rule.Profile.TheVariants.{Usual}
use Rattle.romfs_format.specs.declared.rule.Rule.TheVariants.{NameBad, DataOutside, LinkedTwice, SameName}
use Rattle.romfs_format.specs.Fields.{root, name, IsInside}
use Rattle.romfs_format.specs.Chains.{IsSomeMember}
use Rattle.romfs_format.specs.Links.{IsHardLink, IsDirectory, IsFinal, stays, follows, EndsAs}
use Rattle.romfs_format.specs.Rules.{IsRootElsewhere, IsUsed, HasData, IsBadName, EndsOutside, BreaksHeader}
use Rattle.romfs_rules.specs.Marks.{HasSlot, AreMarks, IsListOf, IsElsewhere}
use Rattle.romfs_rules.specs.SameNames.{HaveSameNamesIfAlone}
use Rattle.romfs_rules.proofs.Slots.{marked}

-- if a test is false, its fact does not hold
pub fails : {P : Type 0} {b : Bool} → IsTrue b ↔ P → b ≡ false → ¬ P
fails t e p = false≢true (sym e ∙ t.1 p)

-- a test that reads the mark of a header says whether the header is in the marked set
pub mark_says : (a : List ℕ) (P : ℕ → Type 0) (marks : List Bool) (h : ℕ) (b : Bool) → AreMarks a P marks
    → HasSlot a h → b ≡ get_or marks (h / 16) false → IsTrue b ↔ P h
mark_says a P marks h b m s e = (
  λ t. (marked a P marks h m s.aligned s.inside).0 (sym e ∙ t),
  λ p. e
      ∙ (marked a P marks h m s.aligned s.inside).1 p,
)

-- a list of rising numbers rises whatever is beyond its end
pub rises : (xs : List ℕ) → ((i j : ℕ) → i < j → j < length xs → get_or xs i 0 < get_or xs j 0) → (i j d : ℕ) → i ≤ j → j < length xs
    → get_or xs i d ≤ get_or xs j d
rises xs rising i j d l m = elim (cases_order i j) [
  | inl e ↦ rw e (omega arith)
  | inr (inl k) ↦ (
      let r = rising i j k m in
      let e = get_or_default xs i d 0 (omega arith) in
      let f = get_or_default xs j d 0 m in
      omega arith)
  | inr (inr k) ↦ absurd (omega arith)
]

-- if one fact is known to hold, the test of another says whether both do
pub and_known : {P Q : Type 0} {b c : Bool} → IsTrue b ↔ Q → b ≡ true → IsTrue c ↔ P → IsTrue c ↔ (P × Q)
and_known s e t = (λ y. (t.0 y, s.0 e), λ x. t.1 x.0)

-- if one test is false, another says whether either fact holds
pub or_else : {P Q : Type 0} {b c : Bool} → IsTrue b ↔ P → b ≡ false → IsTrue c ↔ Q → IsTrue c ↔ (P ⊎ Q)
or_else s e t = (λ y. inr (t.0 y), elim [ inl p ↦ absurd (fails s e p) | inr q ↦ t.1 q ])

-- if one test is true, it says that its fact or any other holds
pub or_true : {P Q : Type 0} {b : Bool} → IsTrue b ↔ P → b ≡ true → IsTrue b ↔ (P ⊎ Q)
or_true s e = (λ y. inl (s.0 y), λ x. e)

-- the root's header is elsewhere exactly if the rule against two links says so
pub root_elsewhere : (a : List ℕ) (h : ℕ) → h ≡ root a → IsElsewhere a h ↔ IsRootElsewhere a h
root_elsewhere a h e = (
  λ x. (e, (x.dir, x.other, record { opened = x.opened; in_chain = x.in_chain })),
  λ x. let s = x.1 in record { dir = s.0; other = s.1; opened = s.2.opened; in_chain = s.2.in_chain },
)

-- a chain of hard links has one end
one_final : (a : List ℕ) {h e f : ℕ} → IsFinal a h e → IsFinal a h f → e ≡ f
one_final a (stays n) (stays m) = refl
one_final a (stays n) (follows l y) = absurd (n l)
one_final a (follows l x) (stays m) = absurd (m l)
one_final a (follows l x) (follows k y) = one_final a x y

-- a chain of hard links ends in one way alone
pub one_end : (a : List ℕ) (h : ℕ) (r s : End) → EndsAs a h r → EndsAs a h s → r ≡ s
one_end a h AtDirectory AtDirectory x y = refl
one_end a h AtDirectory AtOther x y = absurd (y.2 (subst (λ e. IsDirectory a e) (one_final a x.1 y.1) x.2))
one_end a h AtDirectory Nowhere x y = absurd (y x.0 x.1)
one_end a h AtOther AtDirectory x y = absurd (x.2 (subst (λ e. IsDirectory a e) (one_final a y.1 x.1) y.2))
one_end a h AtOther AtOther x y = refl
one_end a h AtOther Nowhere x y = absurd (y x.0 x.1)
one_end a h Nowhere AtDirectory x y = absurd (x y.0 y.1)
one_end a h Nowhere AtOther x y = absurd (x y.0 y.1)
one_end a h Nowhere Nowhere x y = refl

-- if it is known how a member's hard links end, comparing that with an end says whether they end so
pub link_says : (a : List ℕ) (h : ℕ) (end r : End) (b : Bool)
    → IsSomeMember a h × IsHardLink a h × EndsAs a h end → b ≡ true ↔ (end ≡ r)
    → IsTrue b ↔ (IsSomeMember a h × IsHardLink a h × EndsAs a h r)
link_says a h end r b x e = (λ t. (x.0, x.1, subst (λ y. EndsAs a h y) (e.0 t) x.2), λ y. e.1 (one_end a h end r x.2 y.2))

-- if its data would end outside, whether a header has data that is used says if it breaks the rule
pub data_says : (a : List ℕ) (h : ℕ) (n : List ℕ) (b : Bool) → Some n ≡ name a h
    → EndsOutside a h n → IsTrue b ↔ (IsUsed a h × HasData a h)
    → IsTrue b ↔ BreaksHeader Usual a DataOutside h
data_says a h n b e l t = (
  λ y. let x = t.0 y in (x.0, x.1, subst (λ o. IsSomeAnd o (EndsOutside a h)) e l),
  λ x. t.1 (x.0, x.1),
)

-- if a header inside has a bad name, being a member is breaking that rule
pub bad_says : (a : List ℕ) (h : ℕ) (n : List ℕ) (b : Bool) → IsInside a h → Some n ≡ name a h
    → IsBadName n → IsTrue b ↔ IsSomeMember a h → IsTrue b ↔ BreaksHeader Usual a NameBad h
bad_says a h n b i e l t = (
  λ y. (t.0 y, i, subst (λ o. IsSomeAnd o IsBadName) e l),
  λ x. t.1 x.0,
)

-- equal names are known of a header that no two links name
alone : (a : List ℕ) (h : ℕ) → (IsElsewhere a (root a) → h ≡ root a) → ¬ BreaksHeader Usual a LinkedTwice h → ¬ IsElsewhere a (root a)
alone a h only once e = once (inr ((root_elsewhere a h (only e)).0 (subst (λ y. IsElsewhere a y) (sym (only e)) e)))

-- if no two links name a header, looking it up among equal names says if it breaks that rule
pub listed_says : (a : List ℕ) (h : ℕ) (hs : List ℕ) (b : Bool) → HaveSameNamesIfAlone a hs
    → (IsElsewhere a (root a) → h ≡ root a) → IsTrue b ↔ Contains hs h → ¬ BreaksHeader Usual a LinkedTwice h
    → IsTrue b ↔ BreaksHeader Usual a SameName h
listed_says a h hs b s only t once =
    let n = s.names (alone a h only once) in
    (λ y. n.each h (t.0 y), λ x. t.1 (n.all h x))

-- looking a header up in a list of headers says whether it is in the set of the list
pub list_says : (a : List ℕ) (P : ℕ → Type 0) (hs : List ℕ) (h : ℕ) (b : Bool) → IsListOf a P hs → HasSlot a h → IsTrue b ↔ Contains hs h
    → IsTrue b ↔ P h
list_says a P hs h b l s t = (λ y. l.each h (t.0 y), λ p. t.1 (l.all h p s.inside s.aligned))
