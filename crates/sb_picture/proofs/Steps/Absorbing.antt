-- one island that is taken into a prefix
use Rattle.std.proofs.Common.{◌≡◌, ℕ, suc, Some, position, slice_get, remove, ap, sym, ◌∙◌}
use Rattle.sb_picture.specs.declared.picture.Island.{Island}
use Rattle.sb_picture.specs.declared.picture.Region.{Region}
use Rattle.sb_picture.specs.Regions.{is_next, taken_at, taken_in, absorbed}

pub absorbed-some : (n m k : ℕ) (g : Region) (i : Island) → n ≡ suc m → Some k ≡ position (is_next g.written) g.islands → slice_get g.islands k ≡ Some i
    → absorbed m (record { name = g.name; presence = g.presence; extent = g.extent; written = i.end; islands = remove g.islands k }) ≡ absorbed n g
absorbed-some n m k g i e at stands =
    ap (λ x. taken_at (λ h. absorbed m h) g k x) (sym stands)
    ∙ (ap (λ x. taken_in (λ h. absorbed m h) g x) at
    ∙ ap (λ x. absorbed x g) (sym e))
