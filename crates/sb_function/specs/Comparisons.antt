-- the comparison that is true exactly where another is false
use Rattle.sb_function.specs.declared.syntax.Comparison.{Comparison}
use Rattle.sb_function.specs.declared.syntax.Comparison.TheVariants.{Less, AtMost, Greater, AtLeast, Equal, NotEqual}

abbrev pub opposite : Comparison → Comparison
opposite Less = AtLeast
opposite AtMost = Greater
opposite Greater = AtMost
opposite AtLeast = Less
opposite Equal = NotEqual
opposite NotEqual = Equal
