-- What a reader must believe of one-step rewritings, in the order in which to read it: classes of terms, choices, what
-- a choice gives; the published definition; applying a rule; the paper's and the sources' examples.
pub mod Classes
pub mod Choice
pub mod Step
pub mod Published
pub mod Apply
pub mod Examples
