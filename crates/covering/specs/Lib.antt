-- What a reader must believe of covering and of the member record, in the order in which to read it. The operations on
-- lists come first; `Rule` stands here because it needs only terms, and both the stored book and a step speak of rules.
pub mod Lists
pub mod Term
pub mod Rule
pub mod Asking
pub mod Covers
pub mod Search
pub mod Form
pub mod Record
pub mod FirstMap
pub mod Desk
-- What only contracts of the code above are said with; the definitions above do not need it.
pub mod Buffer
pub mod Put
