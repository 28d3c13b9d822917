pub mod Tests
pub mod RuleTests
