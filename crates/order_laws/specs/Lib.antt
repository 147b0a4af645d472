-- what is behind stages and messages
pub mod CallsBehind
-- places of orders
pub mod Standing
pub mod Sorted
-- what makes an order legal
pub mod LastWriter
pub mod KeySets
-- what makes sorted calls regular
pub mod ByKeys
