-- the rule of a condition `LEFT OP RIGHT`: the pictures in which it is true, and those in which it is false
use Rattle.std.specs.Prelude.{List, [], ◌∷◌, ◌++◌, pos, negsuc, Option, Some, None}
use Rattle.sb_term.specs.Linear.{Linear, formed}
use Rattle.sb_term.specs.Asks.{Asks, Done, after_it, each_onto}
use Rattle.sb_function.specs.declared.syntax.Simple.{Simple}
use Rattle.sb_function.specs.declared.syntax.Comparison.{Comparison}
use Rattle.sb_function.specs.declared.syntax.Comparison.TheVariants.{Less, AtMost, Greater, AtLeast, Equal, NotEqual}
use Rattle.sb_picture.specs.declared.picture.Picture.{Picture}
use Rattle.sb_function.specs.Comparisons.{opposite}
use Rattle.sb_picture.specs.Pictures.{minus, number_at}
use Rattle.sb_picture.specs.Asking.{assume}

-- the ways in which a comparison is true, each as conditions on terms that are then at least 0
abbrev pub ways : Comparison → Linear → Linear → List (List (Option Linear))
ways Less a b = (formed (minus b a (negsuc 0)) ∷ []) ∷ []
ways AtMost a b = (formed (minus b a (pos 0)) ∷ []) ∷ []
ways Greater a b = (formed (minus a b (negsuc 0)) ∷ []) ∷ []
ways AtLeast a b = (formed (minus a b (pos 0)) ∷ []) ∷ []
ways Equal a b = (formed (minus a b (pos 0)) ∷ formed (minus b a (pos 0)) ∷ []) ∷ []
ways NotEqual a b = (formed (minus a b (negsuc 0)) ∷ []) ∷ (formed (minus b a (negsuc 0)) ∷ []) ∷ []

abbrev pub in_ways : List (List (Option Linear)) → Picture → Asks (List Picture)
in_ways cs p = each_onto [] cs (λ c. assume c p)

pub record Sides : Type 0 where
  pub trues : List Picture
  pub falses : List Picture

-- a comparison with a side of which nothing is known says nothing
abbrev pub split_by : Comparison → Option Linear → Option Linear → Picture → Asks Sides
split_by op None b p = Done (record { trues = p ∷ []; falses = p ∷ [] })
split_by op (Some a) None p = Done (record { trues = p ∷ []; falses = p ∷ [] })
split_by op (Some a) (Some b) p =
    after_it (in_ways (ways op a b) p) (λ ts.
    after_it (in_ways (ways (opposite op) a b) p) (λ fs.
    Done (record { trues = ts; falses = fs })))

abbrev pub split : Simple → Comparison → Simple → Picture → Asks Sides
split left op right p = split_by op (number_at p.values left) (number_at p.values right) p

abbrev pub joined : Sides → Sides → Sides
joined a b = record { trues = a.trues ++ b.trues; falses = a.falses ++ b.falses }

abbrev pub split_all : Simple → Comparison → Simple → List Picture → Sides → Asks Sides
split_all left op right [] out = Done out
split_all left op right (p ∷ ps) out = after_it (split left op right p) (λ s. split_all left op right ps (joined out s))

-- the two sides of a split
abbrev pub sides : List Picture → List Picture → Sides
sides ts fs = record { trues = ts; falses = fs }
