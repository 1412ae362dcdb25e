-- A header that was read with its name has the fields of the one in the image (fields), and its name has
-- the length that is known (named).
use Rattle.std.proofs.Common.{◌≡◌, ◌∙◌, sym, ap, ℕ, ◌+◌, List, [], length, Some}
use Rattle.std.specs.Option.{unwrap_or}
use Rattle.romfs_format.specs.declared.head.Head.{Head}
use Rattle.romfs_format.specs.Fields.{text_at}
use Rattle.romfs_format.specs.Heads.{name_of, head_of}
use Rattle.romfs_rules.specs.Plain.{HasFields}

pub named : (a text : List ℕ) (h n : ℕ) → text_at a (h + 16) ≡ Some text → n ≡ length text → n ≡ length (name_of a h)
named a text h n e f = f ∙ ap (λ o. length (unwrap_or o [])) (sym e)

pub fields : (a : List ℕ) (h : ℕ) (head : Head) → head ≡ head_of a h → HasFields a h head
fields a h head e =
    (ap (λ (x : Head). x.next) e, ap (λ (x : Head). x.kind) e, ap (λ (x : Head). x.spec) e, ap (λ (x : Head). x.size) e)
