use Rattle.std.proofs.Common.{◌∙◌, sym, inl, inr, refl, true≢false}
use Rattle.strata_images.proofs.images.loading_of.Goals as goal

pub returns-then-are_read_whole : goal.returns-then-are_read_whole
returns-then-are_read_whole g c =
    let told = c.are_read_whole.ensures in
    record { told = told.0; each = told.1; is = inl (told.2.0 c.if-are_read_whole.true, refl) }

pub returns : goal.returns
returns g c =
    let told = c.are_read_whole.ensures in
    record {
      told = told.0;
      each = told.1;
      is = inr (λ whole. true≢false (sym (told.2.1 whole) ∙ c.if-are_read_whole.false), refl);
    }
