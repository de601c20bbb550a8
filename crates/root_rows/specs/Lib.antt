-- Base row and diagonals by rule, over the second field.
--     Rule        THE RULE: ones, powers of roots, and their negatives; what is lent, and what is left there
--     RuleLaws    root_order, level_order; level_of, where the levels stand; legal_rule; values_rule: a codeword is the list of values of one polynomial
pub mod Rule
pub mod RuleLaws
