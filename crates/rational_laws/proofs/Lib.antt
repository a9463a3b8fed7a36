-- identities of rings
pub mod Polynomials
-- the laws of the field of fractions, of its inverses and of its order
pub mod RationalLaws
pub mod Inverses
pub mod Quotients
pub mod OrderLaws
-- whole numbers among the fractions
pub mod WholeNumbers
-- sums by index
pub mod IntegerSumLaws
pub mod RationalSumLaws
-- signs, answers of comparisons, and lists by place
pub mod Signs
pub mod Comparisons
pub mod Lists
pub mod WholeLists
pub mod TermLaws
pub mod MatrixLaws
pub mod ExchangeLaws
pub mod SpanLaws
pub mod SelectionLaws
